-- A step over the five buffers is the step of the service that they hold (Settings, After), so demand 3 goes with it (Demand); Same and Orders bring the
-- contracts of the functions that take a step into that form; older images taken in hold what they held, converted (Taking).
pub mod Settings
pub mod After
pub mod Demand
pub mod Same
pub mod Tags
pub mod Orders
pub mod Taking
