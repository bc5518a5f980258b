-- What a node's front end makes of its host's calls (Plan), a call as the code has it (Asked), and what is told of what waits (Tell).
pub mod Plan
pub mod Asked
pub mod Tell
