-- Where lists of steps begin: a station at rest, with what was committed before. The blank station is one, with nothing before it; what a list of steps
-- leaves at rest is another (`rests`, proofs/Resting). So whatever is claimed of lists of steps is claimed of those that go on from there. What is asked of
-- an origin is said of images of any shape: of today's here (`Rested`), and of an older one where a station is converted (crate conversion).
use Rattle.std.specs.Prelude.{◌≡◌, Bool, true, false, ◌||◌, ◌⊎◌, List, [], ◌∷◌, ℕ, ◌≤◌, ◌<◌, length}
use Rattle.std.proofs.Math.Option.{Option, none, some}
use Rattle.numbers.specs.Sizes.{nodes, most_waiting, nobody, unknown}
use Rattle.mask.specs.Mask.{contains}
use Rattle.octets.proofs.Laws.{Bytes}
use Rattle.wire.specs.Decode.{kind_of, from_of, to_of, owner_of, serial_of, stamp_of, check_of}
use Rattle.image.specs.Field.{field_of}
use Rattle.image.specs.Layout.{Shape, shape, has_author, value_field, version_field, author_field, author_serial_field, serial_field, state_field}
use Rattle.image.specs.Valid.{over, check_as}
use Rattle.image.specs.Blank.{blank_as}
use Rattle.coordinator.specs.State.{idle_phase}
use Rattle.arrivals.specs.Receive.{for_replica}
use Rattle.clauses.specs.Clauses.{meets}
use Rattle.clauses.proofs.Fits.{Fits}
use Rattle.steps.specs.Station.{Station, system, blank_station}
use Rattle.protocol.specs.Table.{pick, In, Suffix, AtMostOnce}
use Rattle.protocol.specs.Rules.{Mode, unused, read, write}
use Rattle.protocol.specs.State.{Tx}
use Rattle.protocol.specs.Invariant.{count}
use Rattle.protocol.specs.Refine.Origin.{values_of}
use Rattle.history.specs.Ledger.{Ledger, in?, fed, is_done}
use Rattle.history.specs.Ballots.{Ballots, is_yes}
use Rattle.history.specs.Sane.{Sane}

-- What a station brings along: the transactions committed before, newest first, in the order of the root's first yes to each; with their objects'
-- modes, new values, and participants.
pub record Carried : Type 0 where
  pub txs : List Tx
  pub mode : Tx → ℕ → Mode
  pub new : Tx → ℕ → ℕ
  pub participants : Tx → ℕ

-- a station with what it brings along; lists of steps begin at those that are `Rested`
pub record Origin : Type 0 where
  pub station : Station
  pub carried : Carried

-- a where the transaction is carried, b where it is not
abbrev pub of_carried : {A : Type 0} → Carried → Tx → A → A → A
of_carried k x a b = pick (in? x k.txs) a b

-- ---- what had been told by then
-- all of them committed, and every participant has said done
abbrev pub ledger_of : Origin → Ledger
ledger_of o = let k = o.carried in record {
  pool = o.station.pool;
  puts = [];
  serials = λ n. (o.station.records n).serial;
  log = k.txs;
  committed = k.txs;
  mode = λ x t. of_carried k x (k.mode x t) unused;
  new = λ x t. of_carried k x (k.new x t) 0;
  participants = λ x. of_carried k x (k.participants x) 0;
  dones = λ x n. of_carried k x (contains (k.participants x) n) false;
}

-- of the votes: every participant agreed (a vote that comes again does not make one ripe), and nothing is spoilt
abbrev pub ballots_of : Origin → Ballots
ballots_of o = let k = o.carried in record {
  on = o.station.own.on;
  agreed = λ x n. of_carried k x (contains (k.participants x) n) false;
  spoilt = λ x. false;
}

-- ---- the copies
abbrev pub is_writing : Mode → Bool
is_writing unused = false
is_writing read = false
is_writing write = true

abbrev pub writes : Carried → Tx → ℕ → Bool
writes k x t = is_writing (k.mode x t)

-- how many of a list write the object; the value of the object after v of its writers
abbrev pub writers_of : Carried → List Tx → ℕ → ℕ
writers_of k l t = count (writes k) l t

abbrev pub held_after : Carried → ℕ → ℕ → ℕ
held_after k t v = values_of (writes k) k.new 0 k.txs t v

-- the last of them; none of the first 0
abbrev pub writer_after : Carried → ℕ → ℕ → Option Tx
writer_after k t v = values_of (writes k) (λ x u. some x) none k.txs t v

-- the author of a copy in an image of a shape is a node's transaction, or nobody
abbrev pub AuthorAs : Shape → List ℕ → ℕ → Option Tx → Type 0
AuthorAs s l t none = (field_of (author_field s) l t ≡ nobody) × (field_of (author_serial_field s) l t ≡ 0)
AuthorAs s l t (some x) = (x.owner < nodes) × (field_of (author_field s) l t ≡ x.owner) × (field_of (author_serial_field s) l t ≡ x.serial)

abbrev pub AuthorIs : List ℕ → ℕ → Option Tx → Type 0
AuthorIs l t writer = AuthorAs shape l t writer

-- ---- at rest, with images of a shape
-- A message may wait still. It is of its owner's last transaction or an earlier one, and of the last one has the timestamp; that transaction is late
-- at the replica that it is for, and where it is a yes or a done, at the node that said it.
pub record SpentAs (s : Shape) (st : Station) (b : List ℕ) : Type 0 where
  pub well : check_of b ≡ 0
  pub bytes : Bytes b
  pub begun : serial_of b ≤ (st.records (owner_of b)).serial
  pub stamped : serial_of b ≡ (st.records (owner_of b)).serial → stamp_of b ≡ (st.records (owner_of b)).timestamp
  pub arrives : for_replica (kind_of b) ≡ true → serial_of b ≤ field_of (serial_field s) (st.images (to_of b)) (owner_of b)
  pub said : (is_yes b || is_done b) ≡ true → serial_of b ≤ field_of (serial_field s) (st.images (from_of b)) (owner_of b)

-- An origin: the station is at rest, and its copies are those that the transactions carried have left.
pub record RestedAs (s : Shape) (o : Origin) : Type 0 where
  pub sane : Sane (system o.station)
  -- every record is idle, meets its clauses and fits its widths; every image is valid, and that of what is no node blank
  pub idle : (n : ℕ) → (o.station.records n).phase ≡ idle_phase
  pub clauses : (n : ℕ) → meets (system o.station) (o.station.records n) ≡ true
  pub widths : (n : ℕ) → Fits (o.station.records n)
  pub valid : (n : ℕ) → check_as s (o.station.images n) ≡ 0
  pub bytes : (n : ℕ) → Bytes (o.station.images n)
  pub beyond : (n : ℕ) → nodes ≤ n → o.station.images n ≡ blank_as s
  -- at every node every owner's last transaction is over, and begun
  pub all_over : (n w : ℕ) → field_of (state_field s) (o.station.images n) w ≡ over
  pub below : (n w : ℕ) → field_of (serial_field s) (o.station.images n) w ≤ (o.station.records w).serial
  -- each transaction carried stands there once, was begun, and its participants are a write quorum
  pub once : (x : Tx) → AtMostOnce x o.carried.txs
  pub begun : (x : Tx) → In x o.carried.txs → x.serial ≤ (o.station.records x.owner).serial
  pub write_quorum : (x : Tx) → In x o.carried.txs → (system o.station).is_write (o.carried.participants x) ≡ true
  -- at each participant it is no later than the last, and the copies of what it writes are no older than it left them
  pub late : (x : Tx) (n : ℕ) → In x o.carried.txs → contains (o.carried.participants x) n ≡ true
      → x.serial ≤ field_of (serial_field s) (o.station.images n) x.owner
  pub stored : (x : Tx) (l : List Tx) (n t : ℕ) → Suffix (x ∷ l) o.carried.txs → contains (o.carried.participants x) n ≡ true
      → o.carried.mode x t ≡ write → writers_of o.carried (x ∷ l) t ≤ field_of (version_field s) (o.station.images n) t
  -- each copy is what its writers up to its version left
  pub written : (n t : ℕ) → field_of (version_field s) (o.station.images n) t ≤ writers_of o.carried o.carried.txs t
  pub copies : (n t : ℕ) → field_of (value_field s) (o.station.images n) t
      ≡ held_after o.carried t (field_of (version_field s) (o.station.images n) t)
  -- and its author, where copies have one, is the last of these, or unknown: it was written before authors were kept
  pub authors : has_author s ≡ true → (n t : ℕ) → t < s.objects
      → AuthorAs s (o.station.images n) t (writer_after o.carried t (field_of (version_field s) (o.station.images n) t))
      ⊎ (field_of (author_field s) (o.station.images n) t ≡ unknown)
  -- what waits is spent, and there is room for it
  pub waits : (b : List ℕ) → In b o.station.pool → SpentAs s o.station b
  pub room : length o.station.pool ≤ most_waiting

-- with images of today's shape
abbrev pub Spent : Station → List ℕ → Type 0
Spent st b = SpentAs shape st b

abbrev pub Rested : Origin → Type 0
Rested o = RestedAs shape o

-- ---- origins
abbrev pub blank_origin : ℕ → Origin
blank_origin on =
    record { station = blank_station on; carried = record { txs = []; mode = λ x t. unused; new = λ x t. 0; participants = λ x. 0 } }

-- a station with what was told of the steps to it
abbrev pub origin_of : Station → Ledger → Origin
origin_of st L = record { station = st; carried = record { txs = fed L; mode = L.mode; new = L.new; participants = L.participants } }
