-- The safety theorem of the protocol, and its proofs. What is to be believed of it are the definitions of specs/, in the order that specs/Lib gives, and then
-- the statements of
--   Theorems     the claims hold in every reachable state
--   Tree         the base's rules as an instance, with its claims
--   Own          own quorums (document 02, 2.9) as a second instance, with its claims: a few lines, and none of the core
--   Example      a run; it also shows that the base's order is not that of the decisions
--
-- TO UNDERSTAND WHY, read specs/Invariant, and then Tables to Log below in their order: Commit has the key lemma, Log what only the base needs.
--
-- TO REFINE A STATION to the protocol, see Refine: what never goes back, what messages tell, the images' holders, one transition forward;
-- and how a swapped memory (2.10) and a conversion at rest (2.9) keep the invariant.
--
-- The proofs, in reading order: tools; each transition keeps the invariant; so every reachable state has it; so the claims hold; the base's order.
pub mod Tables
pub mod Lists
pub mod AskAbort
pub mod ListNoDropCopy
pub mod Yes
pub mod Commit
pub mod Apply
pub mod Runs
pub mod Core
pub mod Log
-- The theorems.
pub mod Theorems
pub mod Tree
pub mod Own
pub mod Example
pub mod Refine
