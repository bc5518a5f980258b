-- What replay is told of a batch, from its record (Telling).
pub mod Telling
