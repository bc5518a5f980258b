-- Replay's last values in bounded memory: what is kept and what each thing told makes of it (Digest), and the same in one lent slice of numbers
-- (Layout, Sheet). That a sheet reads as its digest is in proofs/Laws.antt; that a digest has replay's last values is in crate history.
pub mod Digest
pub mod Layout
pub mod Sheet
