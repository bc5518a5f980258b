-- What stands at all places, taken together, said of the objects below the count alone.
use mathlib.Core.Path.{◌≡◌, refl}
use mathlib.Core.Bool.{Bool, true, false, cond, not, ◌&&◌}
use mathlib.Core.List.{List, [], ◌∷◌}
use Prim.Native.Nat.{ℕ, zero, suc, ◌+◌, ◌≤◌}
use native.Mathlib.Omega.{arith}
use lib.Dec.{eqb, ltb}
use lib.ListN.{length, take}
use Rattle.std.specs.List.{list_all, list_any, position_or_len}
use Rattle.std.proofs.lemmas.Bool.Decides.{nat_tests}
use Rattle.numbers.specs.Sizes.{most_open, highest}
use Rattle.coordinator.specs.declared.Object.{Object}
use Rattle.coordinator.specs.System.{System}
use Rattle.coordinator.specs.State.{across, here_else, settled, and_settled, or_used_up}

-- a written version that has no next one
abbrev pub used_up : Object → Bool
used_up x = not (eqb x.mode 0) && eqb x.version highest

settled_past : (s : System) (count i : ℕ) (l : List Object) → count ≤ i → across (and_settled s count) true i l ≡ true
settled_past s count i [] h = refl
settled_past s count i (x ∷ l) h = grind (arith, nat_tests, settled_past s count (i + 1) l)

pub settled_all : (s : System) (count i n : ℕ) (l : List Object) → i + n ≡ count
    → across (and_settled s count) true i l ≡ list_all (settled s) (take n l)
settled_all s count i zero l h = settled_past s count i l (omega arith)
settled_all s count i (suc n) [] h = refl
settled_all s count i (suc n) (x ∷ l) h = grind (arith, nat_tests, settled_all s count (i + 1) n l)

used_up_past : (count i : ℕ) (l : List Object) → count ≤ i → across (or_used_up count) false i l ≡ false
used_up_past count i [] h = refl
used_up_past count i (x ∷ l) h = grind (arith, nat_tests, used_up_past count (i + 1) l)

pub used_up_any : (count i n : ℕ) (l : List Object) → i + n ≡ count → across (or_used_up count) false i l ≡ list_any used_up (take n l)
used_up_any count i zero l h = used_up_past count i l (omega arith)
used_up_any count i (suc n) [] h = refl
used_up_any count i (suc n) (x ∷ l) h = grind (arith, nat_tests, used_up_any count (i + 1) n l)

place_past : (object count i : ℕ) (l : List Object) → count ≤ i → across (here_else object count) most_open i l ≡ most_open
place_past object count i [] h = refl
place_past object count i (x ∷ l) h = grind (arith, nat_tests, place_past object count (i + 1) l)

-- the place of the first of them that is the object, from place i on
abbrev first : ℕ → List Object → ℕ
first object l = position_or_len (λ x. eqb x.object object) l

pub place_first : (object count i n : ℕ) (l : List Object) → i + n ≡ count
    → across (here_else object count) most_open i l ≡ cond (ltb (first object (take n l)) (length (take n l))) (i + first object (take n l)) most_open
place_first object count i zero l h = place_past object count i l (omega arith)
place_first object count i (suc n) [] h = refl
place_first object count i (suc n) (x ∷ l) h = grind (arith, nat_tests, place_first object count (i + 1) n l)
