-- Sends, drops and deliveries over the buffers (Messages).
pub mod Messages
