-- The station over four lent buffers: the images, the records, the pool, and which nodes are on. What station they are, their own numbers, and what a
-- caller is told.
use Rattle.std.specs.Prelude.{◌≡◌, Bool, cond, not, ◌&&◌, ◌||◌, List, [], ◌∷◌, ℕ, ◌*◌, ◌<◌, eqb, ltb, length}
use Rattle.numbers.specs.Sizes.{nodes, every_node}
use Rattle.numbers.specs.Numbers.{wrong_length, damaged}
use Rattle.numbers.specs.Refusal.{refuse, first_of}
use Rattle.octets.specs.Octets.{get}
use Rattle.parts.specs.Parts.{part, splice}
use Rattle.image.specs.Layout.{shape, image_size}
use Rattle.image.specs.Blank.{blank_as}
use Rattle.coordinator.specs.declared.Coordinator.{Coordinator}
use Rattle.coordinator.specs.System.{tree}
use Rattle.coordinator.specs.State.{blank_record}
use Rattle.record.specs.Layout.{record_size}
use Rattle.record.specs.Record.{record_of, bytes_of, check}
use Rattle.pool.specs.Pool.{waiting, check as checkPool}
use Rattle.buffers.specs.declared.Answer.{Answer}
use Rattle.steps.specs.Station.{Own, Station, blank_station}
use Rattle.steps.specs.Step.{Outcome}

pub record Buffers : Type 0 where
  pub images : List ℕ
  pub records : List ℕ
  pub pool : List ℕ
  pub own : List ℕ

abbrev pub all : List ℕ → List ℕ → List ℕ → List ℕ → Buffers
all images records pool own = record { images = images; records = records; pool = pool; own = own }

-- ---- sizes in bytes
abbrev pub images_size : ℕ
images_size = image_size shape * nodes

abbrev pub records_size : ℕ
records_size = record_size * nodes

abbrev pub own_size : ℕ
own_size = 2

-- ---- node n's part of the images and of the records
unfoldable pub image_at : List ℕ → ℕ → List ℕ
image_at l n = part (image_size shape) (image_size shape * n) l

unfoldable pub with_image_at : List ℕ → ℕ → List ℕ → List ℕ
with_image_at l n m = splice (image_size shape) (image_size shape * n) m l

unfoldable pub record_at : List ℕ → ℕ → List ℕ
record_at l n = part record_size (record_size * n) l

unfoldable pub with_record_at : List ℕ → ℕ → List ℕ → List ℕ
with_record_at l n m = splice record_size (record_size * n) m l

-- ---- the station that buffers are; what is no node is blank
unfoldable pub image_in : List ℕ → ℕ → List ℕ
image_in l n = cond (ltb n nodes) (image_at l n) (blank_as shape)

unfoldable pub record_in : List ℕ → ℕ → Coordinator
record_in l n = cond (ltb n nodes) (record_of (record_at l n)) blank_record

-- the mask of the nodes that are on
abbrev pub on_of : List ℕ → ℕ
on_of l = get 2 l 0

-- what is the station's own
abbrev pub own_of : List ℕ → Own
own_of l = record { on = on_of l; system = tree }

abbrev pub station_of : Buffers → Station
station_of b = record { images = image_in b.images; records = record_in b.records; pool = waiting b.pool; own = own_of b.own }

-- ---- the numbers of the buffers themselves, of those that a step reads or writes: 1 another length, 2 damaged
abbrev pub wrong : List ℕ → ℕ → Bool
wrong l size = not (eqb (length l) size)

-- a mask that names a node that is not there; a node's record that breaks its clauses
abbrev pub own_damaged : List ℕ → Bool
own_damaged l = ltb every_node (on_of l)

unfoldable pub record_damaged : List ℕ → ℕ → Bool
record_damaged l n = ltb n nodes && not (eqb (check (record_at l n)) 0)

-- and its number
abbrev pub record_first : List ℕ → ℕ → ℕ
record_first l n = cond (record_damaged l n) damaged 0

-- the number of who is on
unfoldable pub own_number : List ℕ → ℕ
own_number l = first_of (refuse wrong_length (wrong l own_size) ∷ refuse damaged (own_damaged l) ∷ [])

-- the number of the records' length and of who is on, and then of a node's record, as a host call and a send read them
unfoldable pub ends_first : ℕ → List ℕ → ℕ
ends_first records own = cond (not (eqb records records_size) || wrong own own_size) wrong_length (cond (own_damaged own) damaged 0)

-- a host call reads no image and no message: they may be any
abbrev pub ends : List ℕ → List ℕ → Buffers
ends records own = record { images = []; records = records; pool = []; own = own }

unfoldable pub host_first : Buffers → ℕ → ℕ
host_first b n =
    first_of (refuse wrong_length (wrong b.records records_size || wrong b.own own_size)
    ∷ refuse damaged (own_damaged b.own) ∷ refuse damaged (record_damaged b.records n) ∷ [])

-- ---- what the caller is told: the buffers' number, else the step's own number and answer
abbrev pub answer_with : ℕ → ℕ → Answer
answer_with number answer = record { number = number; answer = answer }

unfoldable pub told : ℕ → Outcome → Answer
told first o = cond (eqb first 0) (answer_with o.number o.answer) (answer_with first 0)

-- the step is taken: neither the buffers nor the step refuse it
abbrev pub goes : ℕ → Outcome → Bool
goes first o = eqb first 0 && eqb o.number 0

-- ---- the records after a step at node n: the bytes of its record after the step, and every other byte as it was
unfoldable pub records_after : ℕ → Outcome → ℕ → List ℕ → List ℕ
records_after first o n l = cond (goes first o) (with_record_at l n (bytes_of (o.station.records n))) l

-- ---- buffers that hold a station: of their lengths, a possible pool, no node on that is not there, every record in its clauses
pub record Whole (b : Buffers) : Type 0 where
  pub images_long : length b.images ≡ images_size
  pub records_long : length b.records ≡ records_size
  pub pool_fine : checkPool b.pool ≡ 0
  pub own_fine : own_number b.own ≡ 0
  pub records_fine : (n : ℕ) → n < nodes → check (record_at b.records n) ≡ 0

-- "A station is blank when its 13 images are, no message waits, and every booking end is idle with last serial and stamp 0"; any nodes may be on
abbrev pub Blank : Buffers → Type 0
Blank b = Whole b × (station_of b ≡ blank_station (on_of b.own))
