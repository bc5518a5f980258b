-- An order as a step (Order), what a step of any kind tells and leaves (Left), and when buffers hold what a list of steps left (Held).
pub mod Order
pub mod Left
pub mod Held
