-- What is due on bytes: its number (OnBytes), and the entries gathered (Gather).
pub mod OnBytes
pub mod Gather
