-- A delivery on bytes (OnBytes), what it leaves of them (Stored), and that it leaves a record (Kept).
pub mod OnBytes
pub mod Stored
pub mod Kept
