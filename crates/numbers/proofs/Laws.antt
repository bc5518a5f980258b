-- Of two numbers the lower that is not 0.
use mathlib.Core.Path.{◌≡◌, refl, sym, ◌∙◌}
use mathlib.Core.Bool.{Bool, true, false}
use Prim.Native.Nat.{ℕ}
use lib.Dec.{eqb, ltb}
use borrow.Author.Tests.{eqb-true, eqb-false}
use Rattle.numbers.specs.Refusal.{lower}

-- of two numbers neither refuses
pub lower_none : (m n : ℕ) → lower m n ≡ 0 → (m ≡ 0) × (n ≡ 0)
unfolding lower
lower_none m n e = by (eqb m 0) (eqb n 0) refl refl
  where
    by : (a b : Bool) → eqb m 0 ≡ a → eqb n 0 ≡ b → (m ≡ 0) × (n ≡ 0)
    by true b p q = (eqb-true m 0 p, sym (simp p) ∙ e)
    by false true p q = absurd (eqb-false m 0 p (sym (simp (p, q)) ∙ e))
    by false false p q = absurd (which (ltb m n) refl)
      where
        which : (b : Bool) → ltb m n ≡ b → ⊥
        which true r = eqb-false m 0 p (sym (simp (p, q, r)) ∙ e)
        which false r = eqb-false n 0 q (sym (simp (p, q, r)) ∙ e)
