-- One turn, and the end, of the loop that lays a list (Laws).
pub mod Laws
