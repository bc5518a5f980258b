-- Document 01's marked cases, and the table of the smallest quorums that the library does not keep.
pub mod Marked
pub mod Table
