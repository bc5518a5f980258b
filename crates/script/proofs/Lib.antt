-- The words by their letters (Words), and the laws of the loops over a line's numbers (Laws).
pub mod Words
pub mod Laws
