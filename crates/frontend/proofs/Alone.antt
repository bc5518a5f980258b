-- What a call leaves alone: opens, values and a request the settings, a table of classes the record.
use mathlib.Core.Path.{◌≡◌, refl, sym, ap, ◌∙◌}
use mathlib.Core.Bool.{Bool, true, false, cond, ◌&&◌}
use mathlib.Core.List.{List, [], ◌∷◌}
use Prim.Native.Nat.{ℕ}
use lib.Dec.{eqb}
use borrow.Author.Tests.{eqb-true}
use Rattle.octets.proofs.Laws.{Bytes}
use Rattle.coordinator.specs.Step.{Step}
use Rattle.coordinator.specs.System.{tree}
use Rattle.coordinator.specs.Calls.{request_commit_of}
use Rattle.increments.specs.Deeds.{Edit, Deed, edits, asks, edit_of, ran, in_use, summing, any_past}
use Rattle.record.specs.Record.{record_of, bytes_of}
use Rattle.record.proofs.Kept.{same_bytes}
use Rattle.settings.specs.Settings.{adds, classed}
use Rattle.frontend.specs.Plan.{edit, request, load_classes, planned, barred, request_by, classes_number, plan, plan_on, first_number}
use Rattle.frontend.specs.Plan.{front_record, front_settings}
use Rattle.frontend.proofs.First.{first_none, lent_none}

planned_same : (k a : ℕ) (ds : List Deed) (s : List ℕ) → (planned k a ds s s).settings ≡ s
planned_same k a ds s = by (eqb k 0) refl
  where
    by : (b : Bool) → eqb k 0 ≡ b → (planned k a ds s s).settings ≡ s
    by true e = simp e
    by false e = simp e

planned_deeds : (k a : ℕ) (s' s : List ℕ) → (planned k a [] s' s).deeds ≡ []
planned_deeds k a s' s = by (eqb k 0) refl
  where
    by : (b : Bool) → eqb k 0 ≡ b → (planned k a [] s' s).deeds ≡ []
    by true e = simp e
    by false e = simp e

-- the same, whether something comes first or not
either_way : (b : Bool) (x s : List ℕ) → (b ≡ true → x ≡ s) → s ≡ cond b x s
either_way true x s h = sym (h refl)
either_way false x s h = refl

module _ (l s : List ℕ) (me : ℕ) where
  edit_keeps : (e : Edit) → (plan_on l s me (edit e)).settings ≡ s
  unfolding plan
  edit_keeps e =
      let b = edit_of (record_of l) me e in planned_same (barred (adds s) b.number) b.answer (edits e ∷ []) s

  pub edit_alone : (e : Edit) → s ≡ front_settings l s me (edit e)
  unfolding front_settings
  edit_alone e = either_way (eqb (first_number l s (edit e)) 0) _ s (λ z. edit_keeps e)

  request_keeps : (t : Bool) → (request_by t tree (record_of l) s me).settings ≡ s
  request_keeps t = by (t && (eqb b.number 0 && any_past (record_of l))) refl
    where
      b : Step
      b = request_commit_of tree (record_of l) me

      by : (x : Bool) → (t && (eqb b.number 0 && any_past (record_of l))) ≡ x → (request_by t tree (record_of l) s me).settings ≡ s
      by true e = simp e
      by false e = simp e (planned_same b.number b.answer (asks ∷ cond t (summing (in_use (record_of l)) []) []) s)

  pub request_alone : s ≡ front_settings l s me request
  unfolding front_settings plan
  request_alone = either_way (eqb (first_number l s request) 0) _ s (λ z. request_keeps (adds s))

  pub classes_alone : Bytes l → (list : List ℕ) → l ≡ front_record l s me (load_classes list)
  unfolding front_record plan ran
  classes_alone small list =
      either_way (eqb (first_number l s (load_classes list)) 0) _ l
      (λ z. let none = (first_none l s (load_classes list) (eqb-true (first_number l s (load_classes list)) 0 z)).0 in
      ap (λ (ds : List Deed). bytes_of (ran tree (record_of l) me ds)) (planned_deeds (classes_number (record_of l) me list) 0 (classed s list) s)
      ∙ same_bytes l small (lent_none l s none).0)
