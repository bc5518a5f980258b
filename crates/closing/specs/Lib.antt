-- What is said at the end of a scenario: the newest copies (Copies), whether the station is at rest and settled (State), what that means of a
-- station (Meaning), and the texts (Texts).
pub mod Copies
pub mod State
pub mod Texts
pub mod Meaning
