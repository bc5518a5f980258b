-- What the proofs of `closing` share: a test of every number below one, as a loop counts (Loops). And what is said of the station that the buffers
-- are: at rest and settled (Answers), and the newest copies (Newest).
pub mod Loops
pub mod Answers
pub mod Newest
pub mod Fits
