-- A request's arguments are of the types that demand 3 asks for (Types); it is its step, and demand 3 goes with it (Theorems); what only reads is no step
-- (Reading).
pub mod Types
pub mod Theorems
pub mod Reading
