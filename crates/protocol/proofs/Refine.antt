-- For those who refine a station to the protocol. No claim of this crate rests on these files; crate history's proof of demand 3 does, and its definition
-- of an origin takes `values_of` (Origin).
-- Growth: what never goes back. Messages: what a sent message tells stays true. Holders: the images' holders. Simulate: all of it for one
-- transition, and a state read from bytes. Origin: a state at rest that brings committed transactions along. Rest: what a run leaves at rest is
-- one. Authors: who wrote each copy last. Refill: 2.10's swapped memory. Convert: 2.9's conversion at rest.
pub mod Growth
pub mod Messages
pub mod Holders
pub mod Simulate
pub mod Refill
pub mod Convert
pub mod Origin
pub mod Rest
pub mod Authors
