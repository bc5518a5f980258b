-- A step over the four buffers is the step of the station that they hold (Kept, After), so demand 3 goes with it (Demand); a step that is not lent a
-- buffer does not look at it (Same).
pub mod Same
pub mod Kept
pub mod After
pub mod Demand
