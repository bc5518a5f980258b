-- Thirteen parts of one width (Parted), what host calls tell and leave (Hosted; Off, at a node that is off), and that the maker's station is blank (Blanking).
pub mod Parted
pub mod Hosted
pub mod Off
pub mod Blanking
