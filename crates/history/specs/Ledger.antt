-- What the events of a list of steps tell, "from the steps, their answers and the messages they put in the pool, and nothing else"; on top of what an
-- origin carries (`ledger_of`, Origin), which is nothing for a blank one.
use Rattle.std.specs.Prelude.{◌≡◌, Bool, true, cond, ◌&&◌, List, [], ◌∷◌, ◌++◌, ℕ, ◌+◌, eqb, get_or}
use Rattle.std.proofs.Common.{inl, inr}
use Rattle.std.proofs.Math.Option.{Option, none, some}
use Rattle.std.proofs.Math.Decide.{ℕ_discrete}
use Rattle.wire.specs.Message.{vote, outcome, done}
use Rattle.wire.specs.Decode.{kind_of, from_of, owner_of, serial_of}
use Rattle.wire.specs.Items.{word_of}
use Rattle.coordinator.specs.State.{committed}
use Rattle.steps.specs.Station.{without}
use Rattle.steps.specs.Step.{Call, begin, open_read, open_write, set_value, found, reselect, request_commit, abort, send, delivery, drop, switch}
use Rattle.steps.specs.Run.{Event}
use Rattle.protocol.specs.Table.{put, put2, times, select, In}
use Rattle.protocol.specs.Rules.{Mode, read, write}
use Rattle.protocol.specs.State.{Tx, Tx-discrete}
use Rattle.protocol.specs.Replay.{after, replay, given}

pub record Ledger : Type 0 where
  -- the messages that waited at first and those put since, less accepted drops and deliveries not kept: a delivery's message is the k-th of these
  pub pool : List (List ℕ)
  -- every message put since the first step
  pub puts : List (List ℕ)
  -- each owner's serial: at first its record's, then its accepted begins counted
  pub serials : ℕ → ℕ
  -- the transactions in the order in which the root's first yes to each was put into the pool, newest first
  pub log : List Tx
  -- those carried, and those for which a delivery answered 'committed'
  pub committed : List Tx
  -- a transaction's objects with their modes and last new values, from accepted host calls
  pub mode : Tx → ℕ → Mode
  pub new : Tx → ℕ → ℕ
  -- its participants, as the accepted request_commit answered them
  pub participants : Tx → ℕ
  -- whether the node put a done into the pool on a delivery of the transaction's commit; of those carried, whether it is a participant
  pub dones : Tx → ℕ → Bool

-- ---- messages
abbrev pub tx_of : List ℕ → Tx
tx_of b = record { owner = owner_of b; serial = serial_of b }

-- a yes of the root; a commit; a done
abbrev pub root_yes : List ℕ → Bool
root_yes b = eqb (kind_of b) vote && (eqb (word_of b) 1 && eqb (from_of b) 0)

abbrev pub is_commit : List ℕ → Bool
is_commit b = eqb (kind_of b) outcome && eqb (word_of b) 1

abbrev pub is_done : List ℕ → Bool
is_done b = eqb (kind_of b) done

-- the log when a message is put: the root's first yes to a transaction adds it
abbrev pub first_only : Tx → List Tx → List Tx
first_only x l = cond (eqb (times Tx-discrete x l) 0) (x ∷ l) l

abbrev pub log_put : Option (List ℕ) → List Tx → List Tx
log_put none l = l
log_put (some b) l = cond (root_yes b) (first_only (tx_of b) l) l

abbrev pub pool_put : Option (List ℕ) → List (List ℕ) → List (List ℕ)
pool_put none l = l
pool_put (some b) l = l ++ (b ∷ [])

-- the dones when a delivery of the message b put an answer
abbrev pub dones_put : List ℕ → Option (List ℕ) → (Tx → ℕ → Bool) → Tx → ℕ → Bool
dones_put b none f = f
dones_put b (some a) f = cond (is_commit b && is_done a) (put2 Tx-discrete ℕ_discrete f (tx_of b) (from_of a) true) f

-- ---- one event more
-- the owner's present transaction
abbrev pub current : Ledger → ℕ → Tx
current L n = record { owner = n; serial = L.serials n }

abbrev pub with_mode : Ledger → ℕ → ℕ → Mode → Ledger
with_mode L n t m =
    record {
      pool = L.pool;
      puts = L.puts;
      serials = L.serials;
      log = L.log;
      committed = L.committed;
      mode = put2 Tx-discrete ℕ_discrete L.mode (current L n) t m;
      new = L.new;
      participants = L.participants;
      dones = L.dones;
    }

abbrev pub with_new : Ledger → ℕ → ℕ → ℕ → Ledger
with_new L n t v =
    record {
      pool = L.pool;
      puts = L.puts;
      serials = L.serials;
      log = L.log;
      committed = L.committed;
      mode = L.mode;
      new = put2 Tx-discrete ℕ_discrete L.new (current L n) t v;
      participants = L.participants;
      dones = L.dones;
    }

abbrev pub with_participants : Ledger → ℕ → ℕ → Ledger
with_participants L n party =
    record {
      pool = L.pool;
      puts = L.puts;
      serials = L.serials;
      log = L.log;
      committed = L.committed;
      mode = L.mode;
      new = L.new;
      participants = put Tx-discrete L.participants (current L n) party;
      dones = L.dones;
    }

abbrev pub with_serial : Ledger → ℕ → Ledger
with_serial L n =
    record {
      pool = L.pool;
      puts = L.puts;
      serials = put ℕ_discrete L.serials n (L.serials n + 1);
      log = L.log;
      committed = L.committed;
      mode = L.mode;
      new = L.new;
      participants = L.participants;
      dones = L.dones;
    }

-- another pool, and what was put into it
abbrev pub with_put : Ledger → List (List ℕ) → Option (List ℕ) → Ledger
with_put L pool p =
    record {
      pool = pool_put p pool;
      puts = pool_put p L.puts;
      serials = L.serials;
      log = log_put p L.log;
      committed = L.committed;
      mode = L.mode;
      new = L.new;
      participants = L.participants;
      dones = L.dones;
    }

-- what a delivery of the message b tells besides: 'committed', and a done
abbrev pub with_delivered : Ledger → List ℕ → ℕ → Option (List ℕ) → Ledger
with_delivered L b answer p =
    record {
      pool = L.pool;
      puts = L.puts;
      serials = L.serials;
      log = L.log;
      committed = cond (eqb answer committed) (tx_of b ∷ L.committed) L.committed;
      mode = L.mode;
      new = L.new;
      participants = L.participants;
      dones = dones_put b p L.dones;
    }

-- an accepted step
unfoldable pub noted : Ledger → Call → ℕ → Option (List ℕ) → Ledger
noted L (begin n w) answer p = with_serial L n
noted L (open_read n t) answer p = with_mode L n t read
noted L (open_write n t) answer p = with_mode L n t write
noted L (set_value n t v) answer p = with_new L n t v
noted L (found n t) answer p = L
noted L (reselect n live distances) answer p = L
noted L (request_commit n) answer p = with_participants L n answer
noted L (abort n) answer p = L
noted L (send n to t) answer p = with_put L L.pool p
noted L (delivery k kept) answer p =
    with_delivered (with_put L (cond kept L.pool (without k L.pool)) p) (get_or L.pool k []) answer p
noted L (drop k) answer p = with_put L (without k L.pool) p
noted L (switch n up) answer p = L

-- a refused one feeds it nothing
unfoldable pub note : Ledger → Event → Ledger
note L e = cond (eqb e.number 0) (noted L e.call e.answer e.put) L

-- the events of a list, newest first, on top of what was told before it
unfoldable pub ledger_from : Ledger → List Event → Ledger
ledger_from L [] = L
ledger_from L (e ∷ es) = note (ledger_from L es) e

-- ---- replay (document 01: the one-by-one running)
abbrev pub in? : (x : Tx) (l : List Tx) → Dec (In x l)
in? x [] = no (λ i. i)
in? x (y ∷ l) = go (Tx-discrete x y) (in? x l)
  where
    go : Dec (x ≡ y) → Dec (In x l) → Dec (In x (y ∷ l))
    go (yes p) d = yes (inl p)
    go (no p) (yes q) = yes (inr q)
    go (no p) (no q) = no (λ (i : In x (y ∷ l)). neither p q i)
      where
        neither : (x ≡ y → ⊥) → (In x l → ⊥) → In x (y ∷ l) → ⊥
        neither f g (inl e) = f e
        neither f g (inr e) = g e

-- what it is fed: "the committed bookings in the order of controller 0's first yes to each"
abbrev pub fed : Ledger → List Tx
fed L = select (λ x. in? x L.committed) L.log

-- "each with its tallies, modes and last new values": its written ones take their new values
abbrev pub turn : Ledger → Tx → ℕ → ℕ → ℕ
turn L x t a = after (L.mode x t) (L.new x t) a

-- what it gives a transaction for an object, and the last values; values are the 64 bits of a signed number, 0 at first
unfoldable pub given_to : Ledger → Tx → ℕ → ℕ
given_to L x t = given Tx-discrete 0 (turn L) x (fed L) t

unfoldable pub last_value : Ledger → ℕ → ℕ
last_value L t = replay 0 (turn L) (fed L) t

-- its last writer of an object (document 02, 2.5), none at first: each transaction in its turn signs what it writes
abbrev pub signing : Ledger → Tx → ℕ → Option Tx → Option Tx
signing L x t a = after (L.mode x t) (some x) a

unfoldable pub last_writer : Ledger → ℕ → Option Tx
last_writer L t = replay none (signing L) (fed L) t
