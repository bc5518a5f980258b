-- Laws that the crates above cite: of fields in bytes (Lens), of what a sound image is (Sound), of what keeps one sound (Keep, one field of a copy;
-- Whole, `free` and `unlist`; Idle, what is stored of an owner), of the blank image (Blanks); and what these use: Each, Marks, Made.
pub mod Each
pub mod Marks
pub mod Made
pub mod Lens
pub mod Sound
pub mod Keep
pub mod Whole
pub mod Idle
pub mod Blanks
pub mod Authors
