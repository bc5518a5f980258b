-- What 'older' means, and which timestamps come too early.
pub mod Age
