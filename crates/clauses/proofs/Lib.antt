-- The laws of the clauses: as facts (Facts), kept by every call of the host (Keep); the widths, kept too (Fits); what else the clauses and these calls
-- imply (Laws). Cases takes a call apart by its cases. The rest are small laws that these use.
pub mod Parts
pub mod Zeros
pub mod Sets
pub mod Places
pub mod Facts
pub mod Quorums
pub mod Cases
pub mod Keep
pub mod Fits
pub mod Laws
