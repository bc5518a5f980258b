-- The numbers of refusals, how a call's number is found from its list of refusals, and the sizes that everything is built to.
pub mod Numbers
pub mod Refusal
pub mod Outcome
pub mod Sizes
