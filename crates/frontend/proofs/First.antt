-- 1 and 2 of a record and settings, with 1 of a list, come first: they are told, and nothing is altered; where there is none, the plan decides.
use mathlib.Core.Path.{◌≡◌, refl, sym, ap, ◌∙◌}
use mathlib.Core.Bool.{Bool, true, false}
use mathlib.Core.List.{List}
use Prim.Native.Nat.{ℕ}
use lib.Dec.{eqb}
use borrow.Author.Tests.{eq-eqb, ne_eqb, eqb-true}
use Rattle.numbers.specs.Refusal.{lower}
use Rattle.numbers.proofs.Laws.{lower_none}
use Rattle.coordinator.specs.declared.BeginWith.{BeginWith}
use Rattle.increments.specs.Deeds.{Edit}
use Rattle.record.specs.Record.{check}
use Rattle.record.specs.Call.{called}
use Rattle.settings.specs.Settings.{settings_number}
use Rattle.frontend.specs.Plan.{Call, begin, edit, request, plan_on, told_by, left_by, list_number, lent_number, first_number, off_number}
use Rattle.frontend.specs.Plan.{front_told, front_record, front_settings, off_told}

-- the number of a record and settings, with none of a list
pub lower_alone : (m : ℕ) → lower m 0 ≡ m
unfolding lower
lower_alone m = by (eqb m 0) refl
  where
    by : (b : Bool) → eqb m 0 ≡ b → lower m 0 ≡ m
    by true e = simp e (sym (eqb-true m 0 e))
    by false e = simp e

pub lent_none : (bytes settings : List ℕ) → lent_number bytes settings ≡ 0 → (check bytes ≡ 0) × (settings_number settings ≡ 0)
unfolding lent_number
lent_none bytes settings e = lower_none (check bytes) (settings_number settings) e

module _ (bytes settings : List ℕ) (a : Call) where
  pub first_lent : list_number a ≡ 0 → first_number bytes settings a ≡ lent_number bytes settings
  unfolding first_number
  first_lent e = ap (lower (lent_number bytes settings)) e ∙ lower_alone (lent_number bytes settings)

  pub first_none : first_number bytes settings a ≡ 0 → (lent_number bytes settings ≡ 0) × (list_number a ≡ 0)
  unfolding first_number
  first_none e = lower_none (lent_number bytes settings) (list_number a) e

-- a call that is lent no list
module _ (bytes settings : List ℕ) where
  pub begin_first : (w : BeginWith) (day minute : ℕ) → first_number bytes settings (begin w day minute) ≡ lent_number bytes settings
  unfolding list_number
  begin_first w day minute = first_lent bytes settings (begin w day minute) refl

  pub edit_first : (e : Edit) → first_number bytes settings (edit e) ≡ lent_number bytes settings
  unfolding list_number
  edit_first e = first_lent bytes settings (edit e) refl

  pub request_first : first_number bytes settings request ≡ lent_number bytes settings
  unfolding list_number
  request_first = first_lent bytes settings request refl

-- ---- a number comes first
module _ (bytes settings : List ℕ) (me : ℕ) (a : Call) (n : ℕ) (e : n ≡ first_number bytes settings a) (h : n ≡ 0 → ⊥) where
  some : eqb (first_number bytes settings a) 0 ≡ false
  some = ne_eqb (first_number bytes settings a) 0 (λ z. h (e ∙ z))

  pub first_told : called n 0 ≡ front_told bytes settings me a
  unfolding front_told
  first_told = ap (λ (k : ℕ). called k 0) e ∙ simp some

  pub first_record : bytes ≡ front_record bytes settings me a
  unfolding front_record
  first_record = simp some

  pub first_settings : settings ≡ front_settings bytes settings me a
  unfolding front_settings
  first_settings = simp some

  pub first_off : n ≡ off_told bytes settings me a
  unfolding off_told
  first_off = e ∙ simp some

-- ---- none does
module _ (bytes settings : List ℕ) (me : ℕ) (a : Call) (e : first_number bytes settings a ≡ 0) where
  none : eqb (first_number bytes settings a) 0 ≡ true
  none = eq-eqb (first_number bytes settings a) 0 e

  pub plan_told : told_by (plan_on bytes settings me a) ≡ front_told bytes settings me a
  unfolding front_told
  plan_told = simp none

  pub plan_record : left_by (plan_on bytes settings me a) bytes me ≡ front_record bytes settings me a
  unfolding front_record
  plan_record = simp none

  pub plan_settings : (plan_on bytes settings me a).settings ≡ front_settings bytes settings me a
  unfolding front_settings
  plan_settings = simp none

  pub plan_off : off_number a (plan_on bytes settings me a).number ≡ off_told bytes settings me a
  unfolding off_told
  plan_off = simp none
