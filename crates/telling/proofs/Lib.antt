-- How replay is told: the loop (Turns); the sheet kept over the machine's steps that deeds are (Deeds), of a batch and a request on it (Batches), and of any
-- call of a front end (Law).
pub mod Turns
pub mod Deeds
pub mod Batches
pub mod Law
