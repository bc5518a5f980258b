-- What definitions take of the proofs, which are in proofs/: what a history never takes back (AskAbort), what is kept of the log (Log), and two facts that
-- rules need (Tables, Yes).
pub mod Tables
pub mod AskAbort
pub mod Yes
pub mod Log
