-- Why the oldest gets through.
--   OwnerRows         what a delivery at a replica makes of the owners' rows, stamps too
--   Follows           how an owner's record follows what it was
--   Stored            what is stored of an owner's present transaction is its own, always
--   Counting          how many asks, votes, outcomes and dones a list has, by the nodes that they are with
--   Answering         what the two ends make of an ask, a vote, an outcome and a done that fit
--   Judged            an ask is voted yes where nothing stands against it
--   Members           what the transaction's messages do at a participant that lets it through
--   Heard             what messages do at its own coordinator
--   Steps             one step by its cases, with the message that it hands over
--   Stages            votes are out, it is finishing, or ended: one step keeps what is known of each
--   Through           the theorem, of the machine's steps
--   Alone             a transaction is unopposed where every other coordinator is idle
--   Service           the same of the service's steps
-- That what is supposed can be met:
--   Dues, Handed      what is owed to a participant is put; what a delivery of what waits makes of a station
--   Polling           the record as the participants' answers come in, ascending
--   Tallies           what a round adds to what was handed over
--   Rounds, Schedule  one round; all of them
pub mod OwnerRows
pub mod Follows
pub mod Stored
pub mod Counting
pub mod Answering
pub mod Judged
pub mod Members
pub mod Heard
pub mod Steps
pub mod Stages
pub mod Through
pub mod Alone
pub mod Service
pub mod Dues
pub mod Handed
pub mod Polling
pub mod Tallies
pub mod Rounds
pub mod Schedule
