-- A step taken (Taking), and what it means (Meaning).
pub mod Taking
pub mod Meaning
