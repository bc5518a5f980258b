-- What the events of a list of steps tell of the votes, as the ledger from the steps and their answers alone: who is on, which votes came to their
-- owner, and which transactions were spoilt since votes were asked for them. A refused step tells nothing.
use Rattle.std.specs.Prelude.{Bool, true, cond, not, ◌&&◌, ◌||◌, List, [], ◌∷◌, ℕ, eqb, get_or}
use Rattle.std.proofs.Math.Decide.{ℕ_discrete}
use Rattle.mask.specs.Mask.{contains, only, joined, minus}
use Rattle.wire.specs.Message.{vote, yield}
use Rattle.wire.specs.Decode.{kind_of, from_of, to_of}
use Rattle.wire.specs.Items.{rival_of, word_of}
use Rattle.steps.specs.Step.{Call, begin, open_read, open_write, set_value, found, reselect, request_commit, abort, send, delivery, drop, switch}
use Rattle.steps.specs.Run.{Event}
use Rattle.protocol.specs.Table.{put, put2}
use Rattle.protocol.specs.State.{Tx, Tx-discrete}
use Rattle.history.specs.Ledger.{Ledger, tx_of, current, ledger_from}

pub record Ballots : Type 0 where
  -- the nodes that are on
  pub on : ℕ
  -- whether a yes of the transaction from the node was delivered to its owner, while on; of those carried, whether it is a participant
  pub agreed : Tx → ℕ → Bool
  -- whether, since votes were asked for it, an abort call was accepted, or a no of it from a participant or a yield that names it was delivered to
  -- its owner, while on
  pub spoilt : Tx → Bool

-- ---- messages: a vote goes to its owner, a yield to the owner of the rival that it names
abbrev pub is_yes : List ℕ → Bool
is_yes b = eqb (kind_of b) vote && eqb (word_of b) 1

abbrev pub is_no : List ℕ → Bool
is_no b = eqb (kind_of b) vote && eqb (word_of b) 0

abbrev pub is_yield : List ℕ → Bool
is_yield b = eqb (kind_of b) yield

abbrev pub yielding : List ℕ → Tx
yielding b = record { owner = (rival_of b 0).owner; serial = (rival_of b 0).serial }

-- ---- one event more
abbrev pub with_on : Ballots → ℕ → Ballots
with_on B up = record { on = up; agreed = B.agreed; spoilt = B.spoilt }

abbrev pub with_agreed : Ballots → Tx → ℕ → Ballots
with_agreed B x n = record { on = B.on; agreed = put2 Tx-discrete ℕ_discrete B.agreed x n true; spoilt = B.spoilt }

-- votes were asked for the transaction; then it is spoilt
abbrev pub asked : Ledger → Tx → Bool
asked L x = not (eqb (L.participants x) 0)

abbrev pub with_spoilt : Ledger → Ballots → Tx → Ballots
with_spoilt L B x = record { on = B.on; agreed = B.agreed; spoilt = put Tx-discrete B.spoilt x (B.spoilt x || asked L x) }

-- a message that came to a node which is on
unfoldable pub heard : Ledger → Ballots → List ℕ → Ballots
heard L B b =
    cond (is_yes b) (with_agreed B (tx_of b) (from_of b))
    (cond (is_no b && contains (L.participants (tx_of b)) (from_of b)) (with_spoilt L B (tx_of b))
    (cond (is_yield b) (with_spoilt L B (yielding b)) B))

abbrev pub delivered : Ledger → Ballots → List ℕ → Ballots
delivered L B b = cond (contains B.on (to_of b)) (heard L B b) B

-- an accepted step
unfoldable pub polled : Ledger → Ballots → Call → Ballots
polled L B (begin n w) = B
polled L B (open_read n t) = B
polled L B (open_write n t) = B
polled L B (set_value n t v) = B
polled L B (found n t) = B
polled L B (reselect n live distances) = B
polled L B (request_commit n) = B
polled L B (abort n) = with_spoilt L B (current L n)
polled L B (send n to t) = B
polled L B (delivery k kept) = delivered L B (get_or L.pool k [])
polled L B (drop k) = B
polled L B (switch n up) = with_on B (cond up (joined B.on (only n)) (minus B.on (only n)))

unfoldable pub poll : Ledger → Ballots → Event → Ballots
poll L B e = cond (eqb e.number 0) (polled L B e.call) B

-- the events of a list, newest first, on top of what was told before it
unfoldable pub ballots_from : Ledger → Ballots → List Event → Ballots
ballots_from L B [] = B
ballots_from L B (e ∷ es) = poll (ledger_from L es) (ballots_from L B es) e
