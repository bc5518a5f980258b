-- Host calls, switches and the maker of a blank station over the buffers (Calls).
pub mod Calls
