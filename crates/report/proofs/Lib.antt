-- What the proofs of `report` share: how long texts are (Long), and that the rows of the table are the words (Rows).
pub mod Long
pub mod Rows
