-- What is handed on of a checked record (Whole).
pub mod Whole
