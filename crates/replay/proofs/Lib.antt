pub mod Steps
pub mod Cells
pub mod Laws
pub mod Example
