-- A call's number: one refusal after the other, and the number of the step by value that they begin.
use mathlib.Core.Path.{◌≡◌, refl, ap₂, ◌∙◌}
use mathlib.Core.Bool.{Bool, true, false, cond}
use Prim.Native.Nat.{ℕ}
use lib.Dec.{eqb}
use borrow.Author.Tests.{eqb-true}
use Rattle.coordinator.specs.declared.Coordinator.{Coordinator}
use Rattle.coordinator.specs.State.{step_of}

-- a refusal in front of those behind it
pub refusal : (number r rest n : ℕ) (b fits : Bool) → r ≡ cond b number rest → b ≡ fits → rest ≡ n → r ≡ cond fits number n
refusal number r rest n b fits e f g = e ∙ ap₂ (λ (x : Bool) (k : ℕ). cond x number k) f g

-- the number of a step
pub step_number : (n a : ℕ) (c d : Coordinator) → n ≡ (step_of n a c d).number
unfolding step_of
step_number n a c d = by (eqb n 0) refl
  where
    by : (b : Bool) → eqb n 0 ≡ b → n ≡ (step_of n a c d).number
    by true e = simp e (eqb-true n 0 e)
    by false e = simp e
