-- What the writers of messages do (Write).
pub mod Write
