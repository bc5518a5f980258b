-- The fact over document 01's marked cases.
pub mod Marked
