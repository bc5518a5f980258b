-- The coordinator's record as bytes: where each field stands (Layout), the record that bytes are and the bytes of a record (Record), a call on
-- bytes (Call), and what the check tests of the objects' bytes (Valid).
pub mod Layout
pub mod Record
pub mod Call
pub mod Valid
