-- One pass over a run (Both), with its deliveries as accepted (Quick); the sample run computed by it (Opened, Computed); what that says (Listed, Commits);
-- its transaction gets through (Oldest).
pub mod Opened
pub mod Listed
pub mod Quick
pub mod Both
pub mod Computed
pub mod Commits
pub mod Oldest
