-- A node that is on is a node, and a call at one that is off has a number.
use mathlib.Core.Path.{◌≡◌, refl, sym, ◌∙◌}
use mathlib.Core.Bool.{Bool, true, false, cond, ◌||◌}
use Prim.Native.Nat.{ℕ, ◌<◌, ◌≤◌, ◌^◌}
use native.Mathlib.Omega.{arith}
use lib.Dec.{eqb, ltb}
use lib.Pow.{pow_mono}
use borrow.Author.Tests.{eqb-true, ltb-true, ltb-false}
use Rattle.numbers.specs.Sizes.{nodes, every_node}
use Rattle.mask.specs.Mask.{contains}
use Rattle.mask.proofs.Laws.{bit_high}
use Rattle.steps.specs.Step.{when_off}

-- a node that is on is below 13
pub node_on : (on n : ℕ) → on ≤ every_node → contains on n ≡ true → n < nodes
node_on on n h e = by (ltb n nodes) refl
  where
    by : (b : Bool) → ltb n nodes ≡ b → n < nodes
    by true t = ltb-true n nodes t
    by false t =
        let p : 2 ^ nodes ≤ 2 ^ n = pow_mono (ltb-false n nodes t) in
        let z : ◌≡◌ {A = ℕ} 0 1 = sym (bit_high on n (omega arith)) ∙ eqb-true _ 1 e in
        absurd (let w : ⊥ = omega arith in w)

-- a call at a node that is off is refused
pub off_number_lem : (n : ℕ) → when_off n ≡ 0 → ⊥
off_number_lem n = by (eqb n 4) (eqb n 10) refl refl
  where
    by : (a b : Bool) → eqb n 4 ≡ a → eqb n 10 ≡ b → cond (a || b) n 5 ≡ 0 → ⊥
    by true b p q e = let z = eqb-true n 4 p in omega arith
    by false true p q e = let z = eqb-true n 10 q in omega arith
    by false false p q e = omega arith
