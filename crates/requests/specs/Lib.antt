-- The functions for C that take a step at the station (crate host), as requests: what each tells and leaves, and which step of the service it is.
pub mod Requests
