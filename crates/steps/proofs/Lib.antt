-- Nodes that are on and off (Nodes).
pub mod Nodes
