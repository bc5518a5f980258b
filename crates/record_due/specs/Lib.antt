-- What is due, on a record as bytes.
pub mod Call
