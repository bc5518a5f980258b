-- The stored image of a replica: how fields stand in bytes (Field), which fields there are (Layout), which bytes are an image (Valid),
-- the blank image (Blank), what a replica changes in one (Change), and what the check computes in passing (Pass). The laws are in proofs/.
pub mod Field
pub mod Layout
pub mod Valid
pub mod Blank
pub mod Change
pub mod Pass
