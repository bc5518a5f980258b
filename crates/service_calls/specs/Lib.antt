-- The service over five lent buffers (Lent).
pub mod Lent
