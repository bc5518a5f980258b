-- The loops' steps: one turn more is the definition of what is left.
use mathlib.Core.Path.{◌≡◌, ap}
use mathlib.Core.Bool.{true, false, ◌&&◌}
use mathlib.Core.List.{List}
use Prim.Native.Nat.{ℕ, zero, suc, ◌+◌, ◌-◌, ◌<◌}
use native.Mathlib.Omega.{arith}
use lib.Dec.{eqb, ltb}
use lib.ListN.{length, set}
use borrow.Author.Tests.{eq-eqb, ne_eqb}
use Rattle.numbers.specs.Sizes.{objects}
use Rattle.wire.specs.Decode.{owner_of}
use Rattle.replay.specs.Digest.{first_yes, takes}
use Rattle.replay.specs.Layout.{size, serial_cell, place_cell, last_place_cell, last_value_cell, writes_cell, new_cell, cell}
use Rattle.replay.specs.Sheet.{unless, zeroed, with_place, with_put, with_taken, all_taken, value_of}

pub zeroed_step : (n : ℕ) (l : List ℕ) (i : ℕ) → 0 < n → zeroed (n - 1) (set l i 0) (i + 1) ≡ zeroed n l i
unfolding zeroed
zeroed_step zero l i h = absurd (let z : ⊥ = omega arith in z)
zeroed_step (suc n) l i h = ap (λ (k : ℕ). zeroed k (set l i 0) (i + 1)) (let e : suc n - 1 ≡ n = omega arith in e)

pub taken_step : (n : ℕ) (l : List ℕ) (o t : ℕ) → 0 < n → all_taken (n - 1) (with_taken l o t) o (t + 1) ≡ all_taken n l o t
unfolding all_taken
taken_step zero l o t h = absurd (let z : ⊥ = omega arith in z)
taken_step (suc n) l o t h = ap (λ (k : ℕ). all_taken k (with_taken l o t) o (t + 1)) (let e : suc n - 1 ≡ n = omega arith in e)

-- ---- a test taken and left
pub taken_when : (l : List ℕ) (o t : ℕ) → takes (cell l (writes_cell o t)) (cell l (place_cell o)) (cell l (last_place_cell t)) ≡ true
    → with_taken l o t ≡ set (set l (last_place_cell t) (cell l (place_cell o))) (last_value_cell t) (cell l (new_cell o t))
unfolding with_taken
taken_when l o t e = simp e

pub taken_else : (l : List ℕ) (o t : ℕ) → takes (cell l (writes_cell o t)) (cell l (place_cell o)) (cell l (last_place_cell t)) ≡ false → with_taken l o t ≡ l
unfolding with_taken
taken_else l o t e = simp e

pub put_when : (l b : List ℕ) → first_yes (cell l (serial_cell (owner_of b))) (cell l (place_cell (owner_of b))) b ≡ true → with_put l b
    ≡ with_place l (owner_of b)
unfolding with_put
put_when l b e = simp e

pub put_else : (l b : List ℕ) → first_yes (cell l (serial_cell (owner_of b))) (cell l (place_cell (owner_of b))) b ≡ false → with_put l b ≡ l
unfolding with_put
put_else l b e = simp e

-- ---- a call done, and one refused
pub unless_done : (number : ℕ) (l m : List ℕ) → number ≡ 0 → unless number l m ≡ m
unless_done number l m e = simp (eq-eqb number 0 e)

pub unless_refused : (number : ℕ) (l m : List ℕ) → (number ≡ 0 → ⊥) → unless number l m ≡ l
unless_refused number l m e = simp (ne_eqb number 0 e)
