-- A step with what is printed for it, and what replay is told (Steps).
pub mod Steps
