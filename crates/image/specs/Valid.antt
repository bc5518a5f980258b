-- Which bytes are an image: document 01's sentences, one clause each, in its order. Holders first, whose range is said under 'Bookings'.
use Rattle.std.specs.Prelude.{Bool, true, cond, not, ◌&&◌, ◌||◌, List, [], ◌∷◌, ℕ, zero, suc, eqb, ltb, leb, length}
use Rattle.numbers.specs.Sizes.{nodes, every_node, nobody, unknown}
use Rattle.mask.specs.Mask.{contains}
use Rattle.numbers.specs.Numbers.{wrong_length, damaged}
use Rattle.numbers.specs.Refusal.{refuse, first_of}
use Rattle.image.specs.Field.{field_of}
use Rattle.image.specs.Layout.{Shape, shape, has_author, image_size, object_count, owner_count, holder_field, readers_field, writers_field}
use Rattle.image.specs.Layout.{author_field, author_serial_field, serial_field, state_field, stamp_field}

-- the states of an owner
abbrev pub over : ℕ
over = 0

abbrev pub listed : ℕ
listed = 1

abbrev pub held : ℕ
held = 2

abbrev pub refused : ℕ
refused = 3

-- p holds of each number below n
unfoldable pub each : ℕ → (ℕ → Bool) → Bool
each zero p = true
each (suc n) p = each n p && p n

-- ---- the clauses; `states` gives the state of each owner
-- a holder is 0 to 12, or 255 for none
abbrev pub holder_ok : ℕ → Bool
holder_ok h = ltb h nodes || eqb h nobody

-- a state is 0 to 3
abbrev pub state_ok : ℕ → Bool
state_ok state = leb state refused

-- a mask is at most 8,191
abbrev pub mask_ok : ℕ → Bool
mask_ok m = leb m every_node

-- serial and stamp are both 0, then in state 0, or neither is
abbrev pub serial_ok : ℕ → ℕ → ℕ → Bool
serial_ok serial state stamp = eqb serial 0 && eqb stamp 0 && eqb state over || not (eqb serial 0) && not (eqb stamp 0)

-- a holder's state is 2
abbrev pub held_ok : (ℕ → ℕ) → ℕ → Bool
held_ok states h = eqb h nobody || eqb (states h) held

-- a listed bit's owner has state 1
abbrev pub listed_ok : (ℕ → ℕ) → ℕ → Bool
listed_ok states m = each nodes (λ o. not (contains m o) || eqb (states o) listed)

-- an author is an owner with a serial above 0 (2.5); unknown and nobody have serial 0
abbrev pub author_ok : ℕ → ℕ → Bool
author_ok owner serial = cond (ltb owner nodes) (not (eqb serial 0)) ((eqb owner unknown || eqb owner nobody) && eqb serial 0)

-- ---- all of them, of an image of a shape
-- the counts are the shape's objects and the owners
abbrev pub counts_ok : Shape → List ℕ → Bool
counts_ok s l = eqb (field_of object_count l 0) s.objects && eqb (field_of (owner_count s) l 0) nodes

-- document 01's clauses
unfoldable pub formed : Shape → List ℕ → Bool
formed s l =
    counts_ok s l
    && each s.objects (λ t. holder_ok (field_of (holder_field s) l t))
    && each nodes (λ o. state_ok (field_of (state_field s) l o))
    && each s.objects (λ t. mask_ok (field_of (readers_field s) l t) && mask_ok (field_of (writers_field s) l t))
    && each nodes (λ o. serial_ok (field_of (serial_field s) l o) (field_of (state_field s) l o) (field_of (stamp_field s) l o))
    && each s.objects (λ t. held_ok (field_of (state_field s) l) (field_of (holder_field s) l t))
    && each s.objects
    (λ t. listed_ok (field_of (state_field s) l) (field_of (readers_field s) l t) && listed_ok (field_of (state_field s) l) (field_of (writers_field s) l t))

-- every author is in order, where copies have one
abbrev pub authors_ok : Shape → List ℕ → Bool
authors_ok s l = not (has_author s) || each s.objects (λ t. author_ok (field_of (author_field s) l t) (field_of (author_serial_field s) l t))

unfoldable pub valid : Shape → List ℕ → Bool
valid s l = formed s l && authors_ok s l

-- the number of an image: 1 another length, 2 a clause is broken, 0 neither
unfoldable pub check_as : Shape → List ℕ → ℕ
check_as s l = first_of (refuse wrong_length (not (eqb (length l) (image_size s))) ∷ refuse damaged (not (valid s l)) ∷ [])

abbrev pub check : List ℕ → ℕ
check l = check_as shape l
