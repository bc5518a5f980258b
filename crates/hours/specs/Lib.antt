-- Packing hours: a table as it is lent, which minutes it closes (Hours), and as a node keeps it (Kept).
pub mod Hours
pub mod Kept
