-- What the proofs of the functions share: equal fields (Made), bytes that are 0 (Zero), loops that read items (Items), bytes stored piece by
-- piece (Stores, Pieces, Stored), places of the objects (Places), a call on bytes (OnBytes), the check as the clauses ask (Valid). The laws of the
-- layout (RoundTrip), and what passes the check (Kept).
pub mod Made
pub mod Zero
pub mod Items
pub mod Stores
pub mod Pieces
pub mod Places
pub mod OnBytes
pub mod Valid
pub mod RoundTrip
pub mod Kept
pub mod Stored
