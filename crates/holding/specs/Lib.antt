-- What a step of any kind tells and leaves of the four buffers (Left), and when buffers hold what a list of steps left (Held).
pub mod Left
pub mod Held
