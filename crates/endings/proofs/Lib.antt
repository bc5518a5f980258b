-- What the end of a scenario says, after lists of the machine's steps (Meaning) and of the service's (Service).
pub mod Meaning
pub mod Service
