-- What each thing told makes of a sheet, number by number. A refusal leaves every number as it was.
use Rattle.std.specs.Prelude.{cond, not, ◌&&◌, List, [], ◌∷◌, ℕ, zero, suc, ◌+◌, eqb, ltb, leb, length, set, replicate}
use Rattle.numbers.specs.Sizes.{nodes, objects}
use Rattle.numbers.specs.Numbers.{wrong_length, stranger, no_such_object}
use Rattle.numbers.specs.Refusal.{refuse, first_of}
use Rattle.wire.specs.Decode.{owner_of}
use Rattle.replay.specs.Digest.{next, first_yes, takes}
use Rattle.replay.specs.Layout.{row_size, size, count_cell, serial_cell, place_cell, last_place_cell, last_value_cell, row_cell, writes_cell}
use Rattle.replay.specs.Layout.{new_cell, cell}

-- ---- the numbers: 1 a slice of another length, 4 no owner, 6 no object
unfoldable pub sheet_number : ℕ → ℕ
sheet_number long = first_of (refuse wrong_length (not (eqb long size)) ∷ [])

unfoldable pub owner_number : ℕ → ℕ → ℕ
owner_number long o = first_of (refuse wrong_length (not (eqb long size)) ∷ refuse stranger (leb nodes o) ∷ [])

unfoldable pub object_number : ℕ → ℕ → ℕ → ℕ
object_number long o t =
    first_of (refuse wrong_length (not (eqb long size)) ∷ refuse stranger (leb nodes o) ∷ refuse no_such_object (leb objects t) ∷ [])

-- the sheet after a call with this number
abbrev pub unless : ℕ → List ℕ → List ℕ → List ℕ
unless number l done = cond (eqb number 0) done l

-- ---- nothing told yet: all zeros
unfoldable pub blank_after : List ℕ → List ℕ
blank_after l = unless (sheet_number (length l)) l (replicate size 0)

-- ---- an owner began
-- n zeros from a cell on
unfoldable pub zeroed : ℕ → List ℕ → ℕ → List ℕ
zeroed zero l i = l
zeroed (suc n) l i = zeroed n (set l i 0) (i + 1)

unfoldable pub with_begun : List ℕ → ℕ → List ℕ
with_begun l o = zeroed row_size (set (set l (serial_cell o) (next (cell l (serial_cell o)))) (place_cell o) 0) (row_cell o)

unfoldable pub begun_after : List ℕ → ℕ → List ℕ
begun_after l o = unless (owner_number (length l) o) l (with_begun l o)

-- ---- it opened an object, gave it a new value
unfoldable pub opened_after : List ℕ → ℕ → ℕ → ℕ → List ℕ
opened_after l o t mode = unless (object_number (length l) o t) l (set l (writes_cell o t) mode)

unfoldable pub valued_after : List ℕ → ℕ → ℕ → ℕ → List ℕ
valued_after l o t v = unless (object_number (length l) o t) l (set l (new_cell o t) v)

-- ---- a message was put
unfoldable pub with_place : List ℕ → ℕ → List ℕ
with_place l o = set (set l count_cell (next (cell l count_cell))) (place_cell o) (next (cell l count_cell))

unfoldable pub with_put : List ℕ → List ℕ → List ℕ
with_put l b = cond (first_yes (cell l (serial_cell (owner_of b))) (cell l (place_cell (owner_of b))) b) (with_place l (owner_of b)) l

unfoldable pub put_after : List ℕ → List ℕ → List ℕ
put_after l b = unless (sheet_number (length l)) l (with_put l b)

-- ---- an owner's present transaction committed: one object, and n objects from t on
unfoldable pub with_taken : List ℕ → ℕ → ℕ → List ℕ
with_taken l o t =
    cond (takes (cell l (writes_cell o t)) (cell l (place_cell o)) (cell l (last_place_cell t)))
    (set (set l (last_place_cell t) (cell l (place_cell o))) (last_value_cell t) (cell l (new_cell o t))) l

unfoldable pub all_taken : ℕ → List ℕ → ℕ → ℕ → List ℕ
all_taken zero l o t = l
all_taken (suc n) l o t = all_taken n (with_taken l o t) o (t + 1)

unfoldable pub committed_after : List ℕ → ℕ → List ℕ
committed_after l o = unless (owner_number (length l) o) l (all_taken objects l o 0)

-- ---- the last value of an object; 0 for a slice of another length, or no object
unfoldable pub value_of : List ℕ → ℕ → ℕ
value_of l t = cond (eqb (length l) size && ltb t objects) (cell l (last_value_cell t)) 0
