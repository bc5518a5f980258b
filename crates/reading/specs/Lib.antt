-- A line as it is read (Reading), and lines that are no steps (Notes).
pub mod Reading
pub mod Notes
