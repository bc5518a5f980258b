-- A station: thirteen replicas and coordinators, the messages that wait, and which nodes are on.
use Rattle.std.specs.Prelude.{◌≡◌, cond, List, [], ◌++◌, ◌∷◌, ℕ, ◌+◌, ◌<◌, eqb, take, drop}
use Rattle.numbers.specs.Sizes.{nodes}
use Rattle.image.specs.Layout.{shape}
use Rattle.image.specs.Blank.{blank_as}
use Rattle.coordinator.specs.declared.Coordinator.{Coordinator}
use Rattle.coordinator.specs.System.{System, tree}
use Rattle.coordinator.specs.State.{idle_phase, blank_record}

-- What is of the station itself and of none of its nodes: the mask of the nodes that are on, and the quorums that all thirteen work by (the tree, the
-- one instance so far).
pub record Own : Type 0 where
  pub on : ℕ
  pub system : System

-- By node its image (the bytes) and its record; the pool, the waiting messages (the bytes) in sending order; what is the station's own.
-- A number above 12 is no node: its image is blank and its record idle, and they stay so.
pub record Station : Type 0 where
  pub images : ℕ → List ℕ
  pub records : ℕ → Coordinator
  pub pool : List (List ℕ)
  pub own : Own

-- the quorums that the station works by
abbrev pub system : Station → System
system st = st.own.system

-- the station's own part of a blank station
abbrev pub blank_own : ℕ → Own
blank_own on = record { on = on; system = tree }

-- "A station is blank when its 13 images are, no message waits, and every booking end is idle with last serial and stamp 0." Any nodes may be on.
abbrev pub blank_station : ℕ → Station
blank_station on = record { images = λ n. blank_as shape; records = λ n. blank_record; pool = []; own = blank_own on }

-- "At rest, every booking end is idle."
abbrev pub Quiescent : Station → Type 0
Quiescent st = (n : ℕ) → n < nodes → (st.records n).phase ≡ idle_phase

-- ---- changes
-- the table f with v for n
unfoldable pub put_at : {A : Type 0} → (ℕ → A) → ℕ → A → ℕ → A
put_at f n v i = cond (eqb i n) v (f i)

abbrev pub with_image : Station → ℕ → List ℕ → Station
with_image st n l = record { images = put_at st.images n l; records = st.records; pool = st.pool; own = st.own }

abbrev pub with_record : Station → ℕ → Coordinator → Station
with_record st n c = record { images = st.images; records = put_at st.records n c; pool = st.pool; own = st.own }

abbrev pub with_pool : Station → List (List ℕ) → Station
with_pool st pool = record { images = st.images; records = st.records; pool = pool; own = st.own }

abbrev pub with_own : Station → Own → Station
with_own st own = record { images = st.images; records = st.records; pool = st.pool; own = own }

-- others are on, and the rest of what is the station's own stays
abbrev pub now_on : Own → ℕ → Own
now_on own on = record { on = on; system = own.system }

abbrev pub with_on : Station → ℕ → Station
with_on st on = with_own st (now_on st.own on)

-- a message at the pool's end
abbrev pub sent : Station → List ℕ → Station
sent st b = with_pool st (st.pool ++ (b ∷ []))

-- the k-th message is gone
abbrev pub without : {A : Type 0} → ℕ → List A → List A
without k l = take k l ++ drop (k + 1) l
