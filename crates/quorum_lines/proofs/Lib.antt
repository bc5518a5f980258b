-- Lemmas that the proofs of several needs share.
pub mod Feeding
