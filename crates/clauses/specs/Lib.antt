-- The clauses that every record meets.
pub mod Clauses
