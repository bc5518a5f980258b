-- The lines of the input (Lines), and a whole input (Desk).
pub mod Lines
pub mod Desk
