-- Worked cases (Example), computed with each change of all copies in one walk (Swift, Quick).
pub mod Swift
pub mod Quick
pub mod Example
