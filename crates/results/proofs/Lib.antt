-- Texts one behind another (Chain), the message at a place (Seen), and what is told of a step by whether it was taken (Taken).
pub mod Chain
pub mod Seen
pub mod Taken
