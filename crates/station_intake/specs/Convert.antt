-- Document 02, 2.6: "A station converted whole". Its thirteen images of an older length stand one behind the other, node 0's first; each is written as one
-- of today's, all of them or none.
use Rattle.std.specs.Prelude.{Bool, false, cond, not, ◌||◌, List, [], ◌∷◌, ◌++◌, ℕ, zero, suc, ◌*◌, eqb, length}
use Rattle.std.proofs.Math.Option.{Option, none, some}
use Rattle.numbers.specs.Sizes.{nodes}
use Rattle.numbers.specs.Numbers.{wrong_length, damaged}
use Rattle.numbers.specs.Refusal.{Refusal, refuse, first_of}
use Rattle.parts.specs.Parts.{part}
use Rattle.image.specs.Layout.{Shape, image_size}
use Rattle.image.specs.Valid.{each, valid}
use Rattle.intake.specs.Take.{older_shapes, is_older, taken_in}
use Rattle.buffers.specs.Buffers.{images_size, wrong}

-- the first of some shapes of whose images n bytes are thirteen
abbrev pub station_for : List Shape → ℕ → Option Shape
station_for [] n = none
station_for (s ∷ ss) n = cond (eqb n (image_size s * nodes)) (some s) (station_for ss n)

-- the older shape of whose images n bytes are thirteen
unfoldable pub older_station : ℕ → Option Shape
older_station n = station_for older_shapes n

-- part n of parts of one size, and node n's part of older bytes
abbrev pub part_at : ℕ → List ℕ → ℕ → List ℕ
part_at size l n = part size (size * n) l

abbrev pub old_at : Shape → List ℕ → ℕ → List ℕ
old_at s l n = part_at (image_size s) l n

-- the images of the first n nodes as images of today, one behind the other; and those of all
unfoldable pub taken_of : Shape → List ℕ → ℕ → List ℕ
taken_of s l zero = []
taken_of s l (suc n) = taken_of s l n ++ taken_in s (old_at s l n)

abbrev pub all_taken : Shape → List ℕ → List ℕ
all_taken s l = taken_of s l nodes

-- each of the thirteen is valid
abbrev pub all_valid : Shape → List ℕ → Bool
all_valid s l = each nodes (λ n. valid s (old_at s l n))

-- ---- the call
abbrev pub were_valid : Option Shape → List ℕ → Bool
were_valid none old = false
were_valid (some s) old = all_valid s old

abbrev pub converted : Option Shape → List ℕ → List ℕ → List ℕ
converted none old images = images
converted (some s) old images = all_taken s old

-- 1: `old` is not thirteen times an older length, or `images` has not today's; 2: one of the thirteen is no valid image of its shape
unfoldable pub convert_refusals : List ℕ → List ℕ → List Refusal
convert_refusals old images =
    refuse wrong_length (not (is_older (older_station (length old))) || wrong images images_size)
    ∷ refuse damaged (not (were_valid (older_station (length old)) old))
    ∷ []

unfoldable pub convert_number : List ℕ → List ℕ → ℕ
convert_number old images = first_of (convert_refusals old images)

-- what `images` is afterwards; a refusal leaves it
unfoldable pub convert_after : List ℕ → List ℕ → List ℕ
convert_after old images = cond (eqb (convert_number old images) 0) (converted (older_station (length old)) old images) images
