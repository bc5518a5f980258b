-- The machine after the steps that a front end's call makes (Laws).
pub mod Laws
