-- Numbers in bytes (Octets), and which signed number 64 bits are (Signed). The laws are in proofs/Laws.antt.
pub mod Octets
pub mod Signed
