-- What stands at the places of the bytes from place i on, taken together: the place of an object, and tests of every opened object.
use mathlib.Core.Path.{◌≡◌, refl, sym, ap, ◌∙◌}
use mathlib.Core.Bool.{Bool, true, false, not, ◌&&◌, ◌||◌}
use mathlib.Core.List.{List, [], ◌∷◌}
use Prim.Native.Nat.{ℕ, suc, ◌+◌, ◌*◌, ◌-◌, ◌≤◌, ◌<◌}
use native.Mathlib.Omega.{arith}
use lib.Dec.{eqb, ltb}
use lib.ListN.{get_or}
use borrow.Author.Tests.{le-ltb, lt-ltb, eq-eqb, ne_eqb}
use Rattle.numbers.specs.Sizes.{most_open}
use Rattle.wire.specs.Decode.{items_from}
use Rattle.coordinator.specs.declared.Object.{Object}
use Rattle.coordinator.specs.System.{tree}
use Rattle.coordinator.specs.State.{across, here_else, place_in, settled, and_settled, all_settled, or_used_up, any_used_up}
use Rattle.record.specs.Record.{object_of, objects_of}
use Rattle.record.specs.Valid.{last_written}

-- ---- one place, then those behind it
module _ {A : Type 0} (f : ℕ → Object → A → A) (z : A) where
  abbrev pub across_from : List ℕ → ℕ → A
  across_from l i = across f z i (items_from object_of 25 (most_open - i) l (43 + 25 * i))

  across_next : (l : List ℕ) (i : ℕ) → i < most_open → across_from l i ≡ f i (object_of l (43 + 25 * i)) (across_from l (i + 1))
  unfolding items_from
  across_next l i h =
      let e : most_open - i ≡ suc (most_open - (i + 1)) = omega arith in
      let w : 43 + 25 * i + 25 ≡ 43 + 25 * (i + 1) = omega arith in
      ap (λ (n : ℕ). across f z i (items_from object_of 25 n l (43 + 25 * i))) e
      ∙ ap (λ (b : ℕ). f i (object_of l (43 + 25 * i)) (across f z (i + 1) (items_from object_of 25 (most_open - (i + 1)) l b))) w

  -- past the count no place matters
  module _ (count : ℕ) (skip : (i : ℕ) (x : Object) (r : A) → count ≤ i → f i x r ≡ r) where
    none_past : (xs : List Object) (i : ℕ) → count ≤ i → across f z i xs ≡ z
    none_past [] i h = refl
    none_past (x ∷ xs) i h = skip i x (across f z (i + 1) xs) h ∙ none_past xs (i + 1) (omega arith)

    across_past : (l : List ℕ) (i : ℕ) → count ≤ i → across_from l i ≡ z
    across_past l i h = none_past (items_from object_of 25 (most_open - i) l (43 + 25 * i)) i h

-- ---- the place of an object
abbrev pub place_from : List ℕ → ℕ → ℕ → ℕ → ℕ
place_from l count object i = across_from (here_else object count) most_open l i

pub place_start_lem : (l : List ℕ) (count object : ℕ) → place_from l count object 0 ≡ place_in (objects_of l) count object
unfolding place_in objects_of
place_start_lem l count object = refl

skip_here : (count object i : ℕ) (x : Object) (r : ℕ) → count ≤ i → here_else object count i x r ≡ r
skip_here count object i x r h = simp (le-ltb i count h)

pub place_past : (l : List ℕ) (count object i : ℕ) → count ≤ i → place_from l count object i ≡ most_open
place_past l count object i h = across_past (here_else object count) most_open count (skip_here count object) l i h

module _ (l : List ℕ) (count object i : ℕ) (h : i < most_open) where
  pub place_here : i < count → get_or l (43 + 25 * i) 0 ≡ object → i ≡ place_from l count object i
  unfolding object_of
  place_here k e =
      let t : eqb (get_or l (43 + 25 * i) 0) object ≡ true = eq-eqb _ object e in
      sym (across_next (here_else object count) most_open l i h ∙ simp (lt-ltb i count k, t))

  pub place_not_here : i < count → (get_or l (43 + 25 * i) 0 ≡ object → ⊥) → place_from l count object (i + 1) ≡ place_from l count object i
  unfolding object_of
  place_not_here k f =
      let t : eqb (get_or l (43 + 25 * i) 0) object ≡ false = ne_eqb _ object f in
      sym (across_next (here_else object count) most_open l i h ∙ simp (lt-ltb i count k, t))

-- ---- every opened object is settled: one that is not decides it
abbrev pub settled_from : List ℕ → ℕ → ℕ → Bool
settled_from l count i = across_from (and_settled tree count) true l i

pub settled_start : (l : List ℕ) (count : ℕ) → settled_from l count 0 ≡ all_settled tree (objects_of l) count
unfolding all_settled objects_of
settled_start l count = refl

skip_settled : (count i : ℕ) (x : Object) (r : Bool) → count ≤ i → and_settled tree count i x r ≡ r
skip_settled count i x r h = simp (le-ltb i count h)

pub settled_past : (l : List ℕ) (count i : ℕ) → count ≤ i → settled_from l count i ≡ true
settled_past l count i h = across_past (and_settled tree count) true count (skip_settled count) l i h

and_go : (a t r : Bool) → a ≡ true → t ≡ true → ((not a || t) && r) ≡ r
and_go a t r p q = simp (p, q)

and_stop : (a t r : Bool) → a ≡ true → t ≡ false → ((not a || t) && r) ≡ false
and_stop a t r p q = simp (p, q)

-- ---- some opened object is used up: one that is decides it
abbrev pub used_up_from : List ℕ → ℕ → ℕ → Bool
used_up_from l count i = across_from (or_used_up count) false l i

pub used_up_start : (l : List ℕ) (count : ℕ) → used_up_from l count 0 ≡ any_used_up (objects_of l) count
unfolding any_used_up objects_of
used_up_start l count = refl

skip_used_up : (count i : ℕ) (x : Object) (r : Bool) → count ≤ i → or_used_up count i x r ≡ r
skip_used_up count i x r h = simp (le-ltb i count h)

pub used_up_past : (l : List ℕ) (count i : ℕ) → count ≤ i → used_up_from l count i ≡ false
used_up_past l count i h = across_past (or_used_up count) false count (skip_used_up count) l i h

or_go : (a t r : Bool) → a ≡ true → t ≡ false → ((a && t) || r) ≡ r
or_go a t r p q = simp (p, q)

or_stop : (a t r : Bool) → a ≡ true → t ≡ true → ((a && t) || r) ≡ true
or_stop a t r p q = simp (p, q)

module _ (l : List ℕ) (count i : ℕ) (h : i < most_open) (k : i < count) where
  abbrev x : Object
  x = object_of l (43 + 25 * i)

  pub settled_on : settled tree (object_of l (43 + 25 * i)) ≡ true → settled_from l count (i + 1) ≡ settled_from l count i
  settled_on e =
      sym (across_next (and_settled tree count) true l i h ∙ and_go (ltb i count) (settled tree x) (settled_from l count (i + 1)) (lt-ltb i count k) e)

  pub unsettled_at : settled tree (object_of l (43 + 25 * i)) ≡ false → false ≡ settled_from l count i
  unsettled_at e =
      sym (across_next (and_settled tree count) true l i h ∙ and_stop (ltb i count) (settled tree x) (settled_from l count (i + 1)) (lt-ltb i count k) e)

  pub used_up_on : last_written (object_of l (43 + 25 * i)) ≡ false → used_up_from l count (i + 1) ≡ used_up_from l count i
  used_up_on e = sym (across_next (or_used_up count) false l i h ∙ or_go (ltb i count) (last_written x) (used_up_from l count (i + 1)) (lt-ltb i count k) e)

  pub used_up_at : last_written (object_of l (43 + 25 * i)) ≡ true → true ≡ used_up_from l count i
  used_up_at e = sym (across_next (or_used_up count) false l i h ∙ or_stop (ltb i count) (last_written x) (used_up_from l count (i + 1)) (lt-ltb i count k) e)
