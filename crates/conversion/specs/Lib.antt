-- A station converted whole, as document 02's 2.6 has it: what becomes of it (Converted), and that the same one-by-one running continues (Claims). TO BELIEVE
-- THAT, read these two, crate intake's `taken_in` (what becomes of one image) and crate history's Origin and Claims.
pub mod Converted
pub mod Claims
