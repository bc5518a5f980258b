-- A transaction that adds (document 02, 2.2): sums in 64 bits (Sums), and the record's own calls that it is made of (Deeds).
pub mod Sums
pub mod Deeds
