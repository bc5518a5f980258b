-- What sends (Sending), drops (Dropping) and deliveries (Waiting, Delivering, Arriving) tell and leave.
pub mod Sending
pub mod Dropping
pub mod Waiting
pub mod Delivering
pub mod Arriving
