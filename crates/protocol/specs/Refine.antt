-- For those who refine a station to the protocol: what the statements of proofs/Refine speak of. No claim of this crate rests on these files; crate
-- history's proof of demand 3 does, and its definition of an origin takes `values_of` (Origin).
pub mod Growth
pub mod Messages
pub mod Holders
pub mod Simulate
pub mod Refill
pub mod Convert
pub mod Origin
pub mod Rest
pub mod Authors
