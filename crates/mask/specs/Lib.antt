-- What a mask means. Its laws are in proofs/Laws.antt.
pub mod Mask
