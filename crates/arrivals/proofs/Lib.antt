-- Theorems has what the definitions of a delivery imply; Rivals is what the proof of its loop uses.
pub mod Refused
pub mod Rivals
pub mod Theorems
