-- What the contracts of `quorum_lines` cite: what a line means (Line), each byte of a reply (Reply), the output of an input (Output).
-- The theorems: nothing is lost where pieces of the input meet (Pieces), which lines are good (Text), marked cases (Samples).
-- Laws has what the proofs cite.
pub mod Line
pub mod Reply
pub mod Output
pub mod Laws
pub mod Pieces
pub mod Text
pub mod Samples
