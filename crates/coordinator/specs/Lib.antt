-- Document 01, 'Bookings': the quorum system that the rules are read over (System), what a call comes to (Step), what a record says (State), and the
-- host's calls (Calls).
-- What a delivered message does is in crate arrivals, what is due in crate due.
pub mod System
pub mod Step
pub mod State
pub mod Calls
