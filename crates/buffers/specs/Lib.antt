-- The station over four lent buffers (Buffers).
pub mod Buffers
