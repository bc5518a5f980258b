-- What is claimed of every list of steps from an origin that is `Rested`, the blank station being one, whichever nodes are on: demand 3, the numbers of
-- deliveries, what a late message does, and who wrote last. It is said once, of whatever steps an `Account` is of: here the station's own, above it those
-- of the service. A list is newest first, so the lists that came before are its ends; what is claimed after every list is claimed after every one of those.
use Rattle.std.specs.Prelude.{◌≡◌, ◌≢◌, ◌⊎◌, Bool, true, false, cond, eqb, List, [], ◌∷◌, ℕ, ◌^◌, ◌≤◌, ◌<◌, length, get_or}
use Rattle.std.proofs.Math.Option.{Option, none}
use Rattle.numbers.specs.Sizes.{nodes, objects, most_waiting, unknown}
use Rattle.mask.specs.Mask.{contains}
use Rattle.numbers.specs.Numbers.{out_of_turn, pool_full}
use Rattle.wire.specs.declared.Entry.{Entry}
use Rattle.wire.specs.Message.{ask, outcome, yield}
use Rattle.wire.specs.Decode.{kind_of, to_of, owner_of, serial_of, decode}
use Rattle.wire.specs.Items.{rival_of, word_of}
use Rattle.image.specs.Field.{field_of}
use Rattle.image.specs.Layout.{Shape, shape, author_field, value, version, author}
use Rattle.coordinator.specs.declared.Coordinator.{Coordinator}
use Rattle.coordinator.specs.State.{idle_phase, committed, object_at, is_open, ready}
use Rattle.coordinator.specs.System.{System}
use Rattle.steps.specs.Station.{Station, system, Quiescent}
use Rattle.steps.specs.Step.{Call, begin, open_read, open_write, set_value, found, reselect, request_commit, abort, send, delivery, drop, switch, step}
use Rattle.steps.specs.Run.{after, Event, event_of, trace}
use Rattle.protocol.specs.Table.{In, Suffix, times}
use Rattle.protocol.specs.Rules.{unused, read, write}
use Rattle.protocol.specs.State.{Tx, Tx-discrete}
use Rattle.history.specs.Ledger.{Ledger, ledger_from, tx_of, current, fed, given_to, last_value, last_writer}
use Rattle.history.specs.Ballots.{Ballots, ballots_from}
use Rattle.history.specs.Origin.{Origin, ledger_of, ballots_of, AuthorIs}

-- A step's arguments are of their C types: thirteen distances of 16 bits, a timestamp of 32 bits, a value of 64 bits. All others may be any number.
abbrev pub Distances : List ℕ → Type 0
Distances d = (length d ≡ nodes) × ((i : ℕ) → get_or d i 0 < 2 ^ 16)

abbrev pub Typed : Call → Type 0
Typed (begin n w) = (w.timestamp < 2 ^ 32) × Distances w.distances
Typed (open_read n t) = Unit {0}
Typed (open_write n t) = Unit {0}
Typed (set_value n t v) = v < 2 ^ 64
Typed (found n t) = Unit {0}
Typed (reselect n live d) = Distances d
Typed (request_commit n) = Unit {0}
Typed (abort n) = Unit {0}
Typed (send n to t) = Unit {0}
Typed (delivery k kept) = Unit {0}
Typed (drop k) = Unit {0}
Typed (switch n up) = Unit {0}

-- every step of a list
abbrev pub AllTyped : List Call → Type 0
AllTyped [] = Unit {0}
AllTyped (c ∷ cs) = Typed c × AllTyped cs

-- A record's present transaction has this serial, has the object open and, by the quorums, ready, and found the value.
pub record Shows (s : System) (c : Coordinator) (serial t v : ℕ) : Type 0 where
  pub begun : c.phase ≢ idle_phase
  pub present : c.serial ≡ serial
  pub opened : is_open c t ≡ true
  pub is_ready : ready s (object_at c t) ≡ true
  pub value : (object_at c t).value ≡ v

-- In the station the transaction is its owner's present one, and found the value for the object.
abbrev pub Finds : Station → Tx → ℕ → ℕ → Type 0
Finds st x t v = Shows (system st) (st.records x.owner) x.serial t v

-- the entries of a message are a transaction's objects with their modes, and of what it writes the new values that it gave
pub record Carries (L : Ledger) (gave : Tx → ℕ → ℕ) (x : Tx) (es : List Entry) : Type 0 where
  pub each_object : (t : ℕ) → L.mode x t ≢ unused → (e : Entry) × In e es × (e.object ≡ t)
  pub each_mode : (e : Entry) → In e es → L.mode x e.object ≡ cond (eqb e.mode 0) read write
  pub each_value : (e : Entry) → In e es → L.mode x e.object ≡ write → gave x e.object ≡ e.value

-- every participant of each committed transaction has put a done on a delivery of its commit
abbrev pub Settled : Ledger → Type 0
Settled L = (x : Tx) → In x L.committed → (n : ℕ) → contains (L.participants x) n ≡ true → L.dones x n ≡ true

-- no node of the mask has a newer copy
abbrev pub Newest : Station → ℕ → ℕ → ℕ → Type 0
Newest st q n t = (m : ℕ) → m < nodes → contains q m ≡ true → version (st.images m) t ≤ version (st.images n) t

-- at rest it holds of the image and the object of every newest copy, in every read quorum, whichever nodes are on
abbrev pub NewestAtRest : Station → (List ℕ → ℕ → Type 0) → Type 0
NewestAtRest st P = Quiescent st → (q : ℕ) → (system st).is_read q ≡ true → (n t : ℕ) → n < nodes → contains q n ≡ true → t < objects → Newest st q n t
    → P (st.images n) t

-- every copy's author is known, in images of a shape; in today's
abbrev pub KnownAs : Shape → Station → Type 0
KnownAs s st = (n t : ℕ) → field_of (author_field s) (st.images n) t ≢ unknown

abbrev pub Known : Station → Type 0
Known st = KnownAs shape st

-- a transaction is ripe: votes were asked for it, a yes of it from every participant was delivered to its owner while on, and nothing spoilt it since
pub record Ripe (L : Ledger) (B : Ballots) (x : Tx) : Type 0 where
  pub asked : L.participants x ≢ 0
  pub everyone : (n : ℕ) → contains (L.participants x) n ≡ true → B.agreed x n ≡ true
  pub unspoilt : B.spoilt x ≡ false

-- the value is 0, or the new value that a transaction told committed gave the object
abbrev pub Sourced : Ledger → (Tx → ℕ → ℕ) → ℕ → ℕ → Type 0
Sourced L gave t v = (v ≡ 0) ⊎ ((y : Tx) × In y L.committed × (L.mode y t ≡ write) × (v ≡ gave y t))

-- no copy, no list, no owner's row and no record is another
pub record Unmoved (st st' : Station) : Type 0 where
  pub images : (n : ℕ) → st'.images n ≡ st.images n
  pub records : (n : ℕ) → st'.records n ≡ st.records n

-- What is seen of lists of steps of a kind C: the transactions carried to their origin; after a list the station, what it told of transactions and what of
-- votes; what replay of it gives a transaction for an object, the new value that the transaction gives the object there, and the last values; of one more
-- step its number, its answer and the message that it put; and which steps are a delivery, kept or not, and a found call at a node.
pub record Account (C : Type 0) : Type 0 where
  pub carried : List Tx
  pub reached : List C → Station
  pub told : List C → Ledger
  pub votes : List C → Ballots
  pub given : List C → Tx → ℕ → ℕ
  pub gave : List C → Tx → ℕ → ℕ
  pub last : List C → ℕ → ℕ
  pub number : List C → C → ℕ
  pub answer : List C → C → ℕ
  pub put : List C → C → Option (List ℕ)
  pub deliver : ℕ → Bool → C
  pub find : ℕ → ℕ → C

-- a step with its number and its answer is a delivery that answered 'committed' for the transaction; the ledger is of the steps before it
pub record SaysCommitted {C : Type 0} (deliver : ℕ → Bool → C) (L : Ledger) (c : C) (number answer : ℕ) (x : Tx) : Type 0 where
  pub place : ℕ
  pub kept : Bool
  pub a_delivery : c ≡ deliver place kept
  pub accepted : number ≡ 0
  pub says_so : answer ≡ committed
  pub names : tx_of (get_or L.pool place []) ≡ x

-- a kept delivery that has an answer (the same delivery, not kept, puts one into the pool) with 128 messages waiting: 12
pub record Crowded (pool : List (List ℕ)) (kept : Bool) (number : ℕ) (put : Option (List ℕ)) : Type 0 where
  pub is_full : number ≡ pool_full
  pub is_kept : kept ≡ true
  pub waiting : length pool ≡ most_waiting
  pub an_answer : put ≢ none

module _ {C : Type 0} (A : Account C) where
  -- one more step says so; it makes a transaction ripe that was not
  abbrev pub Commits : List C → C → Tx → Type 0
  Commits ds c x = SaysCommitted A.deliver (A.told ds) c (A.number ds c) (A.answer ds c) x

  abbrev pub Ripens : List C → C → Tx → Type 0
  Ripens ds c x = (Ripe (A.told ds) (A.votes ds) x → ⊥) × Ripe (A.told (c ∷ ds)) (A.votes (c ∷ ds)) x

  pub record Demand3 (cs : List C) : Type 0 where
    -- what 'committed' means: a delivery answers it for a transaction exactly when it makes the transaction ripe
    pub committed_ripens : (x : Tx) (c : C) (ds : List C) → Suffix (c ∷ ds) cs → Commits ds c x → Ripens ds c x
    pub ripens_committed : (x : Tx) (c : C) (ds : List C) → Suffix (c ∷ ds) cs → Ripens ds c x → Commits ds c x
    -- (0) each committed transaction stands exactly once in the log, and so in what replay is fed
    pub logged_once : (x : Tx) → In x (A.told cs).committed → times Tx-discrete x (A.told cs).log ≡ 1
    pub fed_once : (x : Tx) → In x (A.told cs).committed → times Tx-discrete x (fed (A.told cs)) ≡ 1
    -- and its entries are those of every ask and every commit put for it; a commit was put for no other transaction
    pub entries_as : (x : Tx) (b : List ℕ) → In x (A.told cs).committed → In b (A.told cs).puts → tx_of b ≡ x
        → (kind_of b ≡ ask) ⊎ ((kind_of b ≡ outcome) × (word_of b ≡ 1)) → Carries (A.told cs) (A.gave cs) x (decode b).entries
    pub commits_only : (b : List ℕ) → In b (A.told cs).puts → kind_of b ≡ outcome → word_of b ≡ 1 → In (tx_of b) (A.told cs).committed
    -- (a) if it was not carried, some earlier list has each of its objects ready; after every one that does, the value found is what replay gives it
    pub was_ready : (x : Tx) (t : ℕ) → In x (A.told cs).committed → (In x A.carried → ⊥) → (A.told cs).mode x t ≢ unused
        → (ds : List C) × Suffix ds cs × Finds (A.reached ds) x t (A.given cs x t)
    pub serial : (x : Tx) (t v : ℕ) (ds : List C) → In x (A.told cs).committed → Suffix ds cs → Finds (A.reached ds) x t v
        → v ≡ A.given cs x t
    -- and every accepted found call for it answered that value
    pub shown : (x : Tx) (n t : ℕ) (ds : List C) → In x (A.told cs).committed → Suffix (A.find n t ∷ ds) cs → current (A.told ds) n ≡ x
        → A.number ds (A.find n t) ≡ 0 → A.answer ds (A.find n t) ≡ A.given cs x t
    -- (b) whatever a transaction found, committed or not, after any earlier list is 0 or the new value that one committed by then gave the object
    pub sourced : (x : Tx) (t v : ℕ) (ds : List C) → Suffix ds cs → Finds (A.reached ds) x t v → Sourced (A.told ds) (A.gave ds) t v
    -- and so is the answer of every accepted found call
    pub shown_sourced : (n t : ℕ) (ds : List C) → Suffix (A.find n t ∷ ds) cs → A.number ds (A.find n t) ≡ 0
        → Sourced (A.told ds) (A.gave ds) t (A.answer ds (A.find n t))
    -- (c) if it is settled, then in every read quorum of the station (from blank the tree's, larger sets too; no step changes them: `lasting_system`,
    -- proofs/Lasting), whichever nodes are on, every newest copy has replay's last value
    pub newest : Settled (A.told cs) → (q : ℕ) → (system (A.reached cs)).is_read q ≡ true → (n t : ℕ) → n < nodes → contains q n ≡ true
        → t < objects → Newest (A.reached cs) q n t
        → value ((A.reached cs).images n) t ≡ A.last cs t

  -- The numbers of deliveries: 5 only where no such message waits, 12 as above, else 0. So whatever waits is accepted where it goes: it is never garbled,
  -- for another node or out of turn, and no image is damaged.
  pub record DeliveryNumbers (cs : List C) : Type 0 where
    pub none_waits : (k : ℕ) (kept : Bool) → length (A.reached cs).pool ≤ k → A.number cs (A.deliver k kept) ≡ out_of_turn
    pub one_waits : (k : ℕ) (kept : Bool) → k < length (A.reached cs).pool
        → (A.number cs (A.deliver k kept) ≡ 0) ⊎ Crowded (A.reached cs).pool kept (A.number cs (A.deliver k kept)) (A.put cs (A.deliver k false))

  -- "Two tries differ by serial, so a late message of the first never counts for the second" (document 02, 2.7): delivering what waits of an earlier
  -- transaction than its owner's present one changes no image and no record, and so does a yield that names another transaction than the receiver's
  -- present one. (A yield is of the transaction that was preferred, not of the one that it names.)
  abbrev pub waiting : List C → ℕ → List ℕ
  waiting cs k = get_or (A.reached cs).pool k []

  pub record EarlierTries (cs : List C) : Type 0 where
    pub late : (k : ℕ) (kept : Bool) → k < length (A.reached cs).pool → kind_of (waiting cs k) ≢ yield
        → serial_of (waiting cs k) < ((A.reached cs).records (owner_of (waiting cs k))).serial
        → Unmoved (A.reached cs) (A.reached (A.deliver k kept ∷ cs))
    pub yields : (k : ℕ) (kept : Bool) → k < length (A.reached cs).pool → kind_of (waiting cs k) ≡ yield
        → (rival_of (waiting cs k) 0).serial ≢ ((A.reached cs).records (to_of (waiting cs k))).serial
        → Unmoved (A.reached cs) (A.reached (A.deliver k kept ∷ cs))

  -- Who wrote last (document 02, 2.5). No step makes an author unknown. And at rest every newest copy has replay's last value, and its author, if it is
  -- known, is replay's last writer: nobody (255 and 0) exactly where the object has none.
  pub record LastWriters (cs : List C) : Type 0 where
    pub known : Known (A.reached []) → Known (A.reached cs)
    pub newest_value : NewestAtRest (A.reached cs) (λ l t. value l t ≡ A.last cs t)
    pub newest_author : NewestAtRest (A.reached cs) (λ l t. author l t ≢ unknown → AuthorIs l t (last_writer (A.told cs) t))

-- ---- the station's own steps
module _ (o : Origin) where
  -- after a list of steps from the origin: the station, and what the events told of transactions and votes
  abbrev pub reached : List Call → Station
  reached cs = after o.station cs

  abbrev pub told : List Call → Ledger
  told cs = ledger_from (ledger_of o) (trace o.station cs)

  abbrev pub votes : List Call → Ballots
  votes cs = ballots_from (ledger_of o) (ballots_of o) (trace o.station cs)

  -- the event of one more step
  abbrev pub event : List Call → Call → Event
  event ds c = event_of c (step (reached ds) c)

  abbrev pub account : Account Call
  account =
      record {
        carried = o.carried.txs;
        reached = reached;
        told = told;
        votes = votes;
        given = λ cs. given_to (told cs);
        gave = λ cs. (told cs).new;
        last = λ cs. last_value (told cs);
        number = λ ds c. (step (reached ds) c).number;
        answer = λ ds c. (step (reached ds) c).answer;
        put = λ ds c. (step (reached ds) c).put;
        deliver = delivery;
        find = found;
      }
