-- The buffers' own numbers come first (First), a call on the bytes of a node's record (Records), and a waiting message as it is lent (Waiting).
pub mod First
pub mod Records
pub mod Waiting
