-- A plan of one deed, on the bytes of a record: it tells what the step by value tells, and leaves the bytes that the step leaves.
use mathlib.Core.Path.{◌≡◌, refl, sym}
use mathlib.Core.Bool.{Bool, true, false}
use mathlib.Core.List.{List, [], ◌∷◌}
use Prim.Native.Nat.{ℕ}
use lib.Dec.{eqb}
use borrow.Author.Tests.{eq-eqb, ne_eqb}
use Rattle.coordinator.specs.declared.Coordinator.{Coordinator}
use Rattle.coordinator.specs.System.{tree}
use Rattle.coordinator.specs.State.{step_of}
use Rattle.increments.specs.Deeds.{Deed, deed_of, ran}
use Rattle.record.specs.Record.{record_of, bytes_of}
use Rattle.record.specs.Call.{kept}
use Rattle.record.specs.Call.{told_by as toldByStep}
use Rattle.frontend.specs.Plan.{planned, refused_plan, told_by, left_by}

-- ---- what is told: a refused step answers 0, as a refused plan does
pub step_told : (n a : ℕ) (c d : Coordinator) (ds : List Deed) (s' s : List ℕ)
    → toldByStep (step_of n a c d) ≡ told_by (planned (step_of n a c d).number (step_of n a c d).answer ds s' s)
unfolding step_of
step_told n a c d ds s' s = by (eqb n 0) refl
  where
    by : (b : Bool) → eqb n 0 ≡ b → toldByStep (step_of n a c d) ≡ told_by (planned (step_of n a c d).number (step_of n a c d).answer ds s' s)
    by true e = simp e
    by false e = simp (e, e)

-- a plan that is refused, and one that goes ahead
module _ (k a : ℕ) (ds : List Deed) (s' s : List ℕ) where
  pub plan_refused : (k ≡ 0 → ⊥) → planned k a ds s' s ≡ refused_plan k s
  plan_refused h = simp (ne_eqb k 0 h)

  pub plan_taken : k ≡ 0 → planned k a ds s' s ≡ record { number = 0; answer = a; deeds = ds; settings = s' }
  plan_taken h = simp (eq-eqb k 0 h)

-- ---- what is left: the bytes as they were where the step is refused
module _ (l : List ℕ) (same : bytes_of (record_of l) ≡ l) (me : ℕ) where
  pub deed_left : (d : Deed) (a : ℕ) (s' s : List ℕ)
      → kept (deed_of tree (record_of l) me d) l ≡ left_by (planned (deed_of tree (record_of l) me d).number a (d ∷ []) s' s) l me
  unfolding kept ran
  deed_left d a s' s = by (eqb (deed_of tree (record_of l) me d).number 0) refl
    where
      by : (b : Bool) → eqb (deed_of tree (record_of l) me d).number 0 ≡ b
          → kept (deed_of tree (record_of l) me d) l ≡ left_by (planned (deed_of tree (record_of l) me d).number a (d ∷ []) s' s) l me
      by true e = simp e
      by false e = simp e (sym same)

  pub refused_left : (k : ℕ) (s : List ℕ) → l ≡ left_by (refused_plan k s) l me
  unfolding ran
  refused_left k s = sym same
