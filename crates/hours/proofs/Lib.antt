-- The turns of the loops over items (Turns); what is kept is what was lent (Theorems).
pub mod Turns
pub mod Theorems
