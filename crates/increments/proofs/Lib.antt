-- The laws of sums (Sums) and of lists of deeds (Deeds); what the amounts of a batch come to (Added), and its sums (Summed one by one, Laws together);
-- the turns of the loops (Turns).
pub mod Sums
pub mod Deeds
pub mod Summed
pub mod Added
pub mod Laws
pub mod Turns
