-- The numbers that a scenario lists, and what is laid in bytes from them. A table of packing hours: the count of the windows in 1 byte, their minutes in 2
-- bytes each, the count of the dates in 1, and the dates in 4 each. A table of classes: the count of the bounds in 1 byte, the bounds in 2 bytes each, then
-- the count of the classes and their tallies in 1 byte each. Weights: their count, which is not listed, in 2 bytes, and each in 2 bytes. What stands in whose
-- place is not looked at, so that a table of any fault can be laid.
use Rattle.std.specs.Prelude.{ℕ, ◌+◌, ◌*◌, ◌/◌, ◌%◌, min, Bool, true, cond, ◌&&◌, List, [], ◌∷◌, ◌++◌, eqb, ltb, leb, length, get_or}
use Rattle.std.proofs.Math.Seq.{paste}
use Rattle.octets.specs.Octets.{le}
use Rattle.lists.specs.declared.Shape.{Shape}
use Rattle.lists.specs.declared.Shape.TheVariants.{Hours, Classes, Weights}

-- the most numbers of a list
abbrev pub most : ℕ
most = 4097

-- ---- the first `count` of some numbers put behind those that are listed, where there is room for them; what stands behind them stays
unfoldable pub has_room : List ℕ → ℕ → ℕ → Bool
has_room list listed count = leb (count + listed) (min most (length list))

unfoldable pub appended : List ℕ → ℕ → List ℕ → ℕ → List ℕ
appended list listed numbers count = cond (has_room list listed count) (paste list listed numbers (min count (length numbers))) list

-- ---- how many bytes a number has by its place, behind a first number n; and the first number that is too large for so many
unfoldable pub hours_width : ℕ → ℕ → ℕ
hours_width n i = cond (eqb i 0) 1 (cond (leb i (2 * n)) 2 (cond (eqb i (2 * n + 1)) 1 4))

unfoldable pub classes_width : ℕ → ℕ → ℕ
classes_width n i = cond (eqb i 0) 1 (cond (leb i n) 2 1)

unfoldable pub width : Shape → ℕ → ℕ → ℕ
width Hours n i = hours_width n i
width Classes n i = classes_width n i
width Weights n i = 2

unfoldable pub limit : ℕ → ℕ
limit k = cond (eqb k 1) 256 (cond (eqb k 2) 65536 4294967296)

-- ---- whether every number fits its place, and the bytes, the lowest first
unfoldable pub fit_from : Shape → ℕ → ℕ → List ℕ → Bool
fit_from s n i [] = true
fit_from s n i (v ∷ vs) = ltb v (limit (width s n i)) && fit_from s n (i + 1) vs

unfoldable pub laid_from : Shape → ℕ → ℕ → List ℕ → List ℕ
laid_from s n i [] = []
laid_from s n i (v ∷ vs) = le (width s n i) v ++ laid_from s n (i + 1) vs

-- what is laid before them: how many weights there are
unfoldable pub counted : Shape → ℕ → List ℕ
counted Hours n = []
counted Classes n = []
counted Weights n = le 2 n

-- the first number, of one byte
abbrev pub first : List ℕ → ℕ
first numbers = get_or numbers 0 0 % 256

-- no more than the most, and four bytes of room for each and for the count
unfoldable pub fits : Shape → ℕ → List ℕ → Bool
fits s room numbers = leb (length numbers + 1) (min (most + 1) (room / 4)) && fit_from s (first numbers) 0 numbers

unfoldable pub laid : Shape → List ℕ → List ℕ
laid s numbers = counted s (length numbers) ++ laid_from s (first numbers) 0 numbers
