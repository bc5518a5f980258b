-- The pool in lent bytes: what waits in it (Pool), and what its changes leave (Change). The laws are in proofs/Laws.antt.
pub mod Pool
pub mod Change
