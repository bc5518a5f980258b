-- A received message as a view over its bytes (document 01's form): what stands in the sections at given places, and what a whole message shows.
pub mod Views
