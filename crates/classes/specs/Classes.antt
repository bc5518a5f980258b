-- A table of weight classes (document 02, 2.2): "up to seven bounds, 1 to 1,999 tenths of a gram, and a tally for each of the up to eight classes between
-- them; a weight on a bound is in the upper class".
use Rattle.std.specs.Prelude.{Bool, true, false, cond, not, ◌&&◌, ◌||◌, List, [], ◌∷◌, ℕ, ◌+◌, ◌*◌, eqb, ltb, leb, length, get_or}
use Rattle.numbers.specs.Sizes.{objects}
use Rattle.numbers.specs.Numbers.{wrong_length, no_such_object, busy, bad_bounds, tally_twice}
use Rattle.numbers.specs.Refusal.{refuse, first_of}
use Rattle.octets.specs.Octets.{get}
use Rattle.wire.specs.Formed.{every}
use Rattle.wire.specs.Decode.{items_from}

-- the most of each; the first number of tenths that is no bound and no weight
abbrev pub most_bounds : ℕ
most_bounds = 7

abbrev pub most_classes : ℕ
most_classes = 8

abbrev pub too_heavy : ℕ
too_heavy = 2000

-- ---- as lent: a count of bounds in one byte, the bounds of 2 bytes each, a count of tallies in one byte, the tallies of 1 byte each
abbrev pub bound_count : List ℕ → ℕ
bound_count l = get_or l 0 0

abbrev pub tally_place : List ℕ → ℕ
tally_place l = 1 + 2 * bound_count l

abbrev pub tally_count : List ℕ → ℕ
tally_count l = get_or l (tally_place l) 0

unfoldable pub bounds : List ℕ → List ℕ
bounds l = items_from (get 2) 2 (bound_count l) l 1

abbrev pub tally_at : List ℕ → ℕ → ℕ
tally_at l i = get_or l i 0

unfoldable pub tallies : List ℕ → List ℕ
tallies l = items_from tally_at 1 (tally_count l) l (tally_place l + 1)

-- how long both lists are, from their counts
abbrev pub list_size : List ℕ → ℕ
list_size l = tally_place l + 1 + tally_count l

-- ---- loading
-- a tally that is none
unfoldable pub strange : List ℕ → Bool
strange l = not (every (λ (t : ℕ). ltb t objects) (tallies l))

-- they rise strictly, above a number, and stay in their range
unfoldable pub rising : ℕ → List ℕ → Bool
rising low [] = true
rising low (b ∷ l) = (ltb low b && ltb b too_heavy) && rising b l

-- "when they don't rise strictly, leave that range, are more than seven or not one fewer than the tallies"
unfoldable pub unbounded : List ℕ → Bool
unbounded l = ltb most_bounds (bound_count l) || (not (eqb (tally_count l) (bound_count l + 1)) || not (rising 0 (bounds l)))

-- a tally stands twice
unfoldable pub has : ℕ → List ℕ → Bool
has t [] = false
has t (u ∷ l) = eqb u t || has t l

unfoldable pub repeated : List ℕ → Bool
repeated [] = false
repeated (t ∷ l) = has t l || repeated l

unfoldable pub twice : List ℕ → Bool
twice l = repeated (tallies l)

-- 1 another length than the counts say
unfoldable pub length_number : List ℕ → ℕ
length_number l = cond (eqb (length l) (list_size l)) 0 wrong_length

-- 6 a tally that is none, 10 a node that is not idle, 14, "then" 15
unfoldable pub table_number : Bool → List ℕ → ℕ
table_number at-work l =
    first_of (refuse no_such_object (strange l) ∷ refuse busy at-work ∷ refuse bad_bounds (unbounded l) ∷ refuse tally_twice (twice l) ∷ [])

-- ---- as a node keeps them, in 24 bytes: both lists as they were lent, zeros behind them; no bound and no tally is no table. What stands behind the
-- lists is not looked at
abbrev pub kept_size : ℕ
kept_size = 24

unfoldable pub no_table : List ℕ → Bool
no_table k = eqb (bound_count k) 0 && eqb (tally_count k) 0

-- none, or one that loading accepts
unfoldable pub sound : List ℕ → Bool
sound k = no_table k || eqb (table_number false k) 0

-- ---- the class of a weight: how many bounds it has reached
unfoldable pub class_of : List ℕ → ℕ → ℕ
class_of [] w = 0
class_of (b ∷ l) w = cond (leb b w) 1 0 + class_of l w
