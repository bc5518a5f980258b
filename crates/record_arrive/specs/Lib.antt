-- A delivery to a record as bytes (Call), and names for what private functions leave (Change).
pub mod Call
pub mod Change
