-- What a host call, a switch and the maker of a blank station tell, and leave of the buffers.
use Rattle.std.specs.Prelude.{Bool, cond, not, ◌&&◌, ◌||◌, List, [], ◌∷◌, ℕ, zero, suc, ◌*◌, eqb, ltb}
use Rattle.numbers.specs.Sizes.{nodes, every_node}
use Rattle.numbers.specs.Numbers.{wrong_length, stranger}
use Rattle.numbers.specs.Refusal.{refuse, first_of}
use Rattle.octets.specs.Octets.{put}
use Rattle.parts.specs.Parts.{splice}
use Rattle.mask.specs.Mask.{contains}
use Rattle.image.specs.Layout.{shape, image_size}
use Rattle.image.specs.Blank.{blank_as}
use Rattle.coordinator.specs.State.{blank_record}
use Rattle.record.specs.Layout.{record_size}
use Rattle.record.specs.Record.{bytes_of}
use Rattle.pool.specs.Pool.{pool_size}
use Rattle.pool.specs.Change.{blank as blankPool}
use Rattle.buffers.specs.declared.Answer.{Answer}
use Rattle.steps.specs.Step.{Call, switch, step}
use Rattle.record.specs.declared.Called.{Called}
use Rattle.buffers.specs.Buffers.{Buffers, all, images_size, records_size, own_size, on_of, station_of, wrong, own_damaged, own_number, host_first}
use Rattle.buffers.specs.Buffers.{answer_with, told}
use Rattle.buffers.specs.Buffers.{goes, records_after}

-- ---- a host call
abbrev pub host_told : Buffers → ℕ → Call → Answer
host_told b n c = told (host_first b n) (step (station_of b) c)

abbrev pub host_records : Buffers → ℕ → Call → List ℕ
host_records b n c = records_after (host_first b n) (step (station_of b) c) n b.records

-- on the bytes of the node's record: the buffers have their lengths, the mask names nodes alone, and the node is on
unfoldable pub is_on : ℕ → List ℕ → ℕ → Bool
is_on records own n = not (not (eqb records records_size) || wrong own own_size) && (not (own_damaged own) && contains (on_of own) n)

-- what the caller is told of it: a refusal has no answer
unfoldable pub answer_of : Called → Answer
answer_of c = cond (eqb c.number 0) (answer_with 0 c.answer) (answer_with c.number 0)

-- ---- a switch needs who is on alone
abbrev pub switching : List ℕ → Buffers
switching own = record { images = []; records = []; pool = []; own = own }

abbrev pub switch_told : Buffers → ℕ → Bool → Answer
switch_told b n up = told (own_number b.own) (step (station_of b) (switch n up))

unfoldable pub switch_own : Buffers → ℕ → Bool → List ℕ
switch_own b n up =
    let o = step (station_of b) (switch n up) in
    cond (goes (own_number b.own) o) (put 2 b.own 0 o.station.own.on) b.own

-- ---- a blank station made: 1 another length, 4 a mask that names what is no node
-- the first n parts of a width are m
unfoldable pub each_part : ℕ → List ℕ → ℕ → List ℕ → List ℕ
each_part width m zero l = l
each_part width m (suc n) l = splice width (width * n) m (each_part width m n l)

abbrev pub images_blank : ℕ → List ℕ → List ℕ
images_blank n l = each_part (image_size shape) (blank_as shape) n l

abbrev pub records_blank : ℕ → List ℕ → List ℕ
records_blank n l = each_part record_size (bytes_of blank_record) n l

unfoldable pub blank_number : Buffers → ℕ → ℕ
blank_number b on =
    first_of (refuse wrong_length ((wrong b.images images_size || wrong b.records records_size) || (wrong b.pool pool_size || wrong b.own own_size))
    ∷ refuse stranger (ltb every_node on) ∷ [])

unfoldable pub blank_after : Buffers → ℕ → Buffers
blank_after b on =
    cond (eqb (blank_number b on) 0)
    (all (images_blank nodes b.images) (records_blank nodes b.records) blankPool (put 2 b.own 0 on)) b
