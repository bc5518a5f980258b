-- A message that its check refuses has one of two numbers, and they come first among a delivery's refusals.
use mathlib.Core.Path.{◌≡◌, refl, sym, ap, ◌∙◌}
use mathlib.Core.Bool.{Bool, true, false, cond, ◌||◌}
use mathlib.Core.List.{List}
use Prim.Native.Nat.{ℕ}
use lib.Dec.{eqb, ltb}
use lib.ListN.{length}
use Rattle.numbers.specs.Sizes.{shortest_message, longest_message}
use Rattle.wire.specs.Decode.{check_of, accepted}

short_or_garbled : (a b : Bool) (n rest : ℕ) → n ≡ cond a 1 (cond b 0 3) → (n ≡ 0 → ⊥)
    → n ≡ cond (eqb (cond a 1 (cond b 0 3)) 1) 1 (cond (eqb (cond a 1 (cond b 0 3)) 3) 3 rest)
short_or_garbled true b n rest e h = e
short_or_garbled false true n rest e h = absurd (h e)
short_or_garbled false false n rest e h = e

pub check_first : (m : List ℕ) (n rest : ℕ) → n ≡ check_of m → (n ≡ 0 → ⊥)
    → n ≡ cond (eqb (check_of m) 1) 1 (cond (eqb (check_of m) 3) 3 rest)
unfolding check_of
check_first m n rest = short_or_garbled (ltb (length m) shortest_message || ltb longest_message (length m)) (accepted m) n rest
