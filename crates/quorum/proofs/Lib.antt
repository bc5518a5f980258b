-- Theorems has what this crate promises of quorums and of the choice; the other files lead to it.
pub mod Meet
pub mod Apart
pub mod Contain
pub mod Order
pub mod Near
pub mod Steps
pub mod Optimal
pub mod Keys
pub mod Threes
pub mod Zero
pub mod Theorems
