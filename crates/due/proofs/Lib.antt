-- What the proofs of the functions share: the entries gathered (Gather), what the caller sees (Tell). Laws of a record that meets its clauses: its
-- entries (Entries), and that what is due is well formed (Formed).
pub mod Gather
pub mod Tell
pub mod Entries
pub mod Formed
