-- Document 01, 'Tree and nearness', in its order: Tree, Quorum, Smallest, Nearest. Levels has the level-by-level choice that the private
-- functions make; that it is the nearness rule is proved, so a reader need not believe it. Key has the numbers that they
-- carry for choices, Counts those for leaves. The theorems are in proofs/Theorems.antt.
pub mod Tree
pub mod Quorum
pub mod Smallest
pub mod Choice
pub mod Nearest
pub mod Levels
pub mod Counts
pub mod Key
