-- A run that commits (Sample), and that its transaction gets through as crate progress claims (Oldest).
pub mod Sample
pub mod Oldest
