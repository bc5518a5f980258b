-- A table of weight classes as it is lent and as a node keeps it (Classes), a batch of weights, and what of it is booked and what waits (Weights).
pub mod Classes
pub mod Weights
