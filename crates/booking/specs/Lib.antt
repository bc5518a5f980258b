-- What a call on a lent record answers (Called); the steps are the coordinator's.
pub mod Called
