-- Laws of a replica: of loops over a message's entries that change the image (Passes), that every answer is well formed (Spoken), that a delivery
-- which nothing refuses writes it whole (Delivered), what each change leaves alone and what it makes of a copy and an owner (Fields), that a valid image
-- stays valid (Kept), what late messages and other than commits leave (Late). For the layers above: every copy and owner after each kind of delivery
-- (After), what an accepted delivery has (Taken), who holds a copy (Holders), what a commit writes (Commits), a message once more (Repeat),
-- what a late or repeated message is answered and who is in the lists (Told).
pub mod Passes
pub mod Spoken
pub mod Delivered
pub mod Fields
pub mod Kept
pub mod Late
pub mod After
pub mod Taken
pub mod Holders
pub mod Commits
pub mod Repeat
pub mod Told
pub mod Refused
