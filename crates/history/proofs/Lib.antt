-- How demand 3 is proved: the station's steps are transitions of crate protocol's abstract system, and what the events tell goes with them.
-- What is kept, and what one transition leaves true:
--   Tests, Words      tests joined; a message's bytes and its record
--   Quorums           a station's quorums as the rules of the abstract system
--   Sim               the station read as an abstract state; what records and waiting messages say is true there
--   Carry             what one transition leaves true of records and messages
--   Lasting           no step changes the quorums
-- The coordinators:
--   Quiet, Decide     calls and messages that are no transition; that are one
--   Objects           what a record has of each object after one place is set
-- The replicas:
--   Rows, Images      one image changed is a transition; what a step makes of an image, as rows
--   Acts, Answers     a message is none, one or two transitions; its answer fits its bytes
--   Encoded, Replies  an encoded message is bytes; what an answer tells
-- The events:
--   Books             what the events tell against the abstract state; `World` is all that a step keeps
--   Host, Turns       host calls and a coordinator's transitions with what is told
--   Arrive            a message at a replica with what is told
-- The steps, one by one, and the theorem:
--   Calls, Answered, Served, Sends   each step of the station
--   Wide, Stamped     what else every step keeps: records fit their widths; serials and stamps of the waiting messages are their owner's
--   Known             no step makes an author unknown
--   Theorem           one more step keeps a history good
--   Origins           an origin is good, and what is told of its votes and its pool is in order; the blank station is an origin
-- What 'committed' means, on top of a good history:
--   Counted           what is told of an owner's votes against its record, and what each change leaves of that
--   Polls, Meaning    every step keeps it; hence a step tells a transaction committed exactly when it makes it ripe
--   Claimed           demand 3, of every list of steps
-- The numbers of deliveries:
--   Moves             what a delivery at a replica makes of last serials and states, and what its answer says of them
--   InTurn            why nothing that waits is out of turn: what is kept, over one record, one image or another pool
--   Going, Turned     coordinators keep it; every step does
--   Room, Numbered    the pool has at most 128 messages; the number of every delivery
--   Tries             what waits of an earlier transaction changes nothing where it comes
--   Spare             only a begin ends idleness and opens; the record of what is no node stays idle
--   Resting           at rest every newest copy has replay's last value and last writer, and what is at rest is an origin again
--   First             whatever follows an origin, replay is fed what it carries first
-- Replay's last values in bounded memory:
--   Ranks             places in a list; what one more commit makes of the values held
--   Tracked, Running  what a digest keeps of a ledger; every list of steps, as a digest and as a sheet
pub mod Tests
pub mod Quorums
pub mod Sim
pub mod Carry
pub mod Lasting
pub mod Quiet
pub mod Decide
pub mod Rows
pub mod Objects
pub mod Books
pub mod Host
pub mod Turns
pub mod Words
pub mod Images
pub mod Acts
pub mod Encoded
pub mod Answers
pub mod Replies
pub mod Arrive
pub mod Calls
pub mod Answered
pub mod Served
pub mod Sends
pub mod Wide
pub mod Known
pub mod Stamped
pub mod Moves
pub mod InTurn
pub mod Going
pub mod Turned
pub mod Room
pub mod Theorem
pub mod Counted
pub mod Polls
pub mod Meaning
pub mod Spare
pub mod Origins
pub mod Claimed
pub mod Numbered
pub mod Tries
pub mod Resting
pub mod First
pub mod Ranks
pub mod Tracked
pub mod Running
