-- The turns of the loops, and rows of eight and of seven (Laws); what loading accepts (Table); what a table and a batch give (Theorems).
pub mod Laws
pub mod Table
pub mod Theorems
