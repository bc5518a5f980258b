-- The protocol of quorum replication in the abstract, and what its safety theorem claims. No code: definitions here, theorems and proofs in proofs/.
--
-- TO BELIEVE THE THEOREM, read these, in this order; they are definitions, short, against document 01 and document 000's Algorithms 1 to 3:
--   Table        functions changed at one place, members and ends of lists
--   Rules        the parameter: which sets of nodes may be participants, that two of them meet, what a yes holds
--   State        the state in parts: copies, owners, votes, history, chain, copies sent
--   Chain        an object's committed values in the order of the decisions
--   Transitions  the nine transitions with their guards; runs
--   Replay       replay of any list of transactions
--   Claims       what is claimed of every reachable state: once, (a), (b), (c), in the order of the decisions
--   Log          the base's order, that of the root's first yes, and what is claimed of replay in it
-- and then the statements of the theorems, which are in proofs/ (Theorems, Tree, Own, Example); of them here
--   Tree         the base's rules as an instance
--   Own          own quorums (document 02, 2.9) as a second instance
--
-- TO UNDERSTAND WHY, read Invariant, and then proofs/ in the order that its Lib gives; here, Proof has what definitions take of it.
--
-- TO REFINE A STATION to the protocol, see proofs/Refine; here, Refine has what its statements speak of.
--
-- WORDS. x, y a transaction; n, m a node; o an object; w an owner; σ a state; h a history; k the contents by transaction; l, m lists, newest first.
-- A field of the invariant begins with its record's letter: v- votes, h- holds, c- chain, o- order, l- log; f- and g- what goes forward and grows.
pub mod Table
pub mod Rules
pub mod State
pub mod Chain
pub mod Transitions
pub mod Replay
pub mod Claims
pub mod Log
pub mod Invariant
pub mod Proof
pub mod Tree
pub mod Own
pub mod Refine
