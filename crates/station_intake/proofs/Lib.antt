-- The images one behind the other (Taken), and what a call says (Called).
pub mod Taken
pub mod Called
