-- Laws of written messages: their pieces (Pieces), rivals given by owner (ByOwner, Votes), and the ends of a writer (Sending).
pub mod Pieces
pub mod ByOwner
pub mod Votes
pub mod Sending
