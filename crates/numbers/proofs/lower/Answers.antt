-- `numbers::lower`: by its tests.
use Prim.Native.Nat.{ℕ, min}
use native.Mathlib.Omega.{arith}
use mathlib.Core.Bool.{Bool, true, false, cond}
use mathlib.Core.Path.{◌≡◌, refl, ◌∙◌}
use lib.Dec.{ltb}
use borrow.Author.Tests.{eq-eqb, ne_eqb, ltb-true, ltb-false}
use Rattle.numbers.specs.Refusal.{lower}
use Rattle.numbers.proofs.lower.Goals as goal

pub returns-then-m-eq0 : goal.returns-then-m-eq0
unfolding lower
returns-then-m-eq0 c = simp (eq-eqb _ 0 c.if-m-eq0.true)

pub returns-then-n-eq0 : goal.returns-then-n-eq0
unfolding lower
returns-then-n-eq0 c = simp (ne_eqb _ 0 c.if-m-eq0.false, eq-eqb _ 0 c.if-n-eq0.true)

-- the lower of two
least : (m n : ℕ) → min m n ≡ cond (ltb m n) m n
least m n = by (ltb m n) refl
  where
    by : (b : Bool) → ltb m n ≡ b → min m n ≡ cond b m n
    by true e = let h = ltb-true m n e in omega arith
    by false e = let h = ltb-false m n e in omega arith

pub returns : goal.returns
unfolding lower
returns c = simp (ne_eqb _ 0 c.if-m-eq0.false, ne_eqb _ 0 c.if-n-eq0.false) (c.min.ensures ∙ least _ _)
