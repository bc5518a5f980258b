-- Document 01, 'What is due to a named controller is written on request': which kind of message is due (Kind), the message and what the caller
-- sees (Due); Gather is what the private functions compute.
pub mod Kind
pub mod Due
pub mod Gather
