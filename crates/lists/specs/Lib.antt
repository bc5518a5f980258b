-- The list of a scenario, and the bytes that it is laid in (Lists).
pub mod Lists
