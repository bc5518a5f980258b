-- What the functions for C answer: distances as bytes (Distances), the nearest quorum with its numbers (Nearest), who wrote a copy last (Images), and
-- the calls on a coordinator's record (Records) and at a station (Stations).
pub mod Distances
pub mod Nearest
pub mod Images
pub mod Records
pub mod Stations
