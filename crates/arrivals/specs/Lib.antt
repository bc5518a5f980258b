-- Document 01, 'Bookings': what a delivered message does to a transaction's record (document 01: a booking's).
pub mod Receive
