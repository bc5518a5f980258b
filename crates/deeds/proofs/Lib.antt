-- What a deed leaves of the bytes (Stored), that each leaves a record (Kept, Held), and its number (Number).
pub mod Stored
pub mod Kept
pub mod Number
pub mod Held
