-- Theorems has what the definitions of the calls imply; the other files are what the proofs of the functions share.
pub mod Refusals
pub mod Across
pub mod Firsts
pub mod Theorems
