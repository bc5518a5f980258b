-- Taking in an older image: what becomes of it (Take), and what the private functions read of it in passing (Pass). The laws are in proofs/.
pub mod Take
pub mod Pass
