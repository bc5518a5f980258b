-- Of two numbers the lower that is not 0 (Laws).
pub mod Laws
pub mod Outcome
