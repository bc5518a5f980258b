-- A node's settings (Settings).
pub mod Settings
