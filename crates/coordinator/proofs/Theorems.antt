-- What the definitions of the calls imply: a refusal leaves the record, serials rise by one, found leaves the record. Over any quorum system.
use mathlib.Core.Path.{◌≡◌, refl, sym, ap, ◌∙◌}
use mathlib.Core.Bool.{Bool, true, false, cond}
use Prim.Native.Nat.{ℕ, ◌+◌}
use lib.Dec.{eqb}
use borrow.Author.Tests.{eqb-false, ne_eqb}
use Rattle.numbers.specs.Refusal.{first_of}
use Rattle.quorum.specs.Nearest.{mask_of}
use Rattle.coordinator.specs.declared.Coordinator.{Coordinator}
use Rattle.coordinator.specs.declared.BeginWith.{BeginWith}
use Rattle.coordinator.specs.Step.{Step}
use Rattle.coordinator.specs.System.{System}
use Rattle.coordinator.specs.State.{step_of}
use Rattle.coordinator.specs.Calls.{begin_refusals, begun, begin_of, found_refusals, found_of}

-- ---- refusals, of every host call: each is a `step_of`
pub refused_leaves : (number answer : ℕ) (before after : Coordinator) → (number ≡ 0 → ⊥) → (step_of number answer before after).coordinator ≡ before
unfolding step_of
refused_leaves number answer before after h = simp (ne_eqb number 0 h)

-- ---- serials rise by one
taken_or : (n : ℕ) (t : Bool) (x : Step) (y : Step) → eqb n 0 ≡ t → y.number ≡ n → (cond t x y).number ≡ 0 → (cond t x y).coordinator ≡ x.coordinator
taken_or n true x y e f g = refl
taken_or n false x y e f g = absurd (eqb-false n 0 e (sym f ∙ g))

pub taken_after : (number answer : ℕ) (before after : Coordinator) → (step_of number answer before after).number ≡ 0
    → (step_of number answer before after).coordinator ≡ after
unfolding step_of
taken_after number answer before after e = taken_or number (eqb number 0) _ _ refl refl e

pub serial_rises : (s : System) (c : Coordinator) (me : ℕ) (w : BeginWith) → (begin_of s c me w).number ≡ 0
    → (begin_of s c me w).coordinator.serial ≡ c.serial + 1
unfolding begin_of begun
serial_rises s c me w e =
    let chosen = s.nearest_read me w.live w.distances in
    ap (λ (d : Coordinator). d.serial) (taken_after (first_of (begin_refusals c me w chosen)) (mask_of chosen) c (begun c w (mask_of chosen)) e)

-- ---- found leaves the record
either_way : (t : Bool) (x y : Step) (c : Coordinator) → x.coordinator ≡ c → y.coordinator ≡ c → (cond t x y).coordinator ≡ c
either_way true x y c p q = p
either_way false x y c p q = q

pub found_leaves : (s : System) (c : Coordinator) (me object : ℕ) → (found_of s c me object).coordinator ≡ c
unfolding found_of step_of
found_leaves s c me object = either_way (eqb (first_of (found_refusals s c me object)) 0) _ _ c refl refl
