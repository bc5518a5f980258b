-- The station with thirteen front ends, and its steps (Service).
pub mod Service
