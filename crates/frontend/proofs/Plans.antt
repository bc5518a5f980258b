-- What every plan keeps: a list of another length refuses it, and it leaves sound settings sound.
use mathlib.Core.Path.{◌≡◌, refl, sym, ap}
use mathlib.Core.Logic.{◌⊎◌, inl, inr}
use mathlib.Core.Bool.{Bool, true, false, cond, not, ◌&&◌}
use mathlib.Core.List.{List, [], ◌∷◌}
use Prim.Native.Nat.{ℕ}
use native.Mathlib.Omega.{arith}
use lib.Dec.{eqb, ltb}
use lib.ListN.{length-replicate}
use borrow.Author.Tests.{eqb-true, eqb-false}
use Rattle.numbers.specs.Sizes.{nodes}
use Rattle.classes.specs.Classes.{table_number}
use Rattle.classes.specs.Classes.{length_number as tableLength}
use Rattle.classes.specs.Weights.{batch_length, left_of}
use Rattle.classes.proofs.Table.{accepted_idle}
use Rattle.classes.proofs.Theorems.{length_left, every_left}
use Rattle.coordinator.specs.declared.Coordinator.{Coordinator}
use Rattle.coordinator.specs.System.{System}
use Rattle.coordinator.specs.Calls.{begin_of, request_commit_of}
use Rattle.increments.specs.Deeds.{Deed, begins, edits, asks, aborts, edit_of, adding, in_use, summing, any_past}
use Rattle.settings.specs.Settings.{classes_in, adds, tenths, settled_as, no_tenths, settings_number, classed}
use Rattle.settings.proofs.Sound.{sound_parts, sound_number, settled_sound, classed_sound}
use Rattle.frontend.specs.Plan.{Call, begin, batch, edit, request, load_classes, Plan, refused_plan, given_up, planned}
use Rattle.frontend.specs.Plan.{barred, begin_number, batch_number, booked, classes_number, plan, off_number, list_number}
use Rattle.frontend.proofs.Numbers.{batch_one, table_one}

-- ---- a list of another length: 1 comes first, and at a node that is off, too
pub list_refuses : (y : System) (c : Coordinator) (s : List ℕ) (me : ℕ) (a : Call) → eqb (list_number a) 0 ≡ false
    → (plan y c s me a ≡ refused_plan (list_number a) s) × (off_number a (list_number a) ≡ list_number a)
unfolding plan list_number off_number batch_number classes_number
list_refuses y c s me (begin w day minute) e = absurd (let z : ◌≡◌ {A = ℕ} 0 1 = ap (λ (b : Bool). cond b 1 0) (sym e) in let k : ⊥ = omega (arith, z) in k)
list_refuses y c s me (batch w day minute list) e = by (batch_one list)
  where
    by : (batch_length list ≡ 0) ⊎ (batch_length list ≡ 1)
        → (plan y c s me (batch w day minute list) ≡ refused_plan (batch_length list) s)
        × (off_number (batch w day minute list) (batch_length list) ≡ batch_length list)
    by (inl z) = absurd (eqb-false (batch_length list) 0 e z)
    by (inr z) = simp z (refl, refl)
list_refuses y c s me (edit x) e = absurd (let z : ◌≡◌ {A = ℕ} 0 1 = ap (λ (b : Bool). cond b 1 0) (sym e) in let k : ⊥ = omega (arith, z) in k)
list_refuses y c s me request e = absurd (let z : ◌≡◌ {A = ℕ} 0 1 = ap (λ (b : Bool). cond b 1 0) (sym e) in let k : ⊥ = omega (arith, z) in k)
list_refuses y c s me (load_classes list) e = by (table_one list)
  where
    by : (tableLength list ≡ 0) ⊎ (tableLength list ≡ 1)
        → (plan y c s me (load_classes list) ≡ refused_plan (tableLength list) s)
        × (off_number (load_classes list) (tableLength list) ≡ tableLength list)
    by (inl z) = absurd (eqb-false (tableLength list) 0 e z)
    by (inr z) = simp z (refl, refl)

-- ---- sound settings stay sound
planned_settings : (P : List ℕ → Type 0) (number answer : ℕ) (deeds : List Deed) (s' s : List ℕ) → (number ≡ 0 → P s') → P s
    → P (planned number answer deeds s' s).settings
planned_settings P number answer deeds s' s f g = by (eqb number 0) refl
  where
    by : (b : Bool) → eqb number 0 ≡ b → P (cond b (record { number = 0; answer = answer; deeds = deeds; settings = s' }) (refused_plan number s)).settings
    by true e = f (eqb-true number 0 e)
    by false e = g

abbrev Good : List ℕ → Type 0
Good s = settings_number s ≡ 0

-- what a table that is loaded is known for
classes_accepted : (c : Coordinator) (me : ℕ) (list : List ℕ) → classes_number c me list ≡ 0 → (tableLength list ≡ 0) × (table_number false list ≡ 0)
unfolding classes_number
classes_accepted c me list = by (eqb (tableLength list) 0) (ltb me nodes) refl
  where
    busy : Bool
    busy = not (eqb c.phase 0)

    by : (x y : Bool) → eqb (tableLength list) 0 ≡ x → ◌≡◌ {A = ℕ} (cond (not x) 1 (cond (not y) 4 (table_number busy list))) 0
        → (tableLength list ≡ 0) × (table_number false list ≡ 0)
    by true true p e = (eqb-true (tableLength list) 0 p, accepted_idle busy list e)
    by true false p e = absurd (let z : ⊥ = omega (arith, e) in z)
    by false y p e = absurd (let z : ⊥ = omega (arith, e) in z)

pub plan_sound : (y : System) (c : Coordinator) (s : List ℕ) (me : ℕ) (a : Call) → settings_number s ≡ 0 → settings_number (plan y c s me a).settings ≡ 0
unfolding plan
plan_sound y c s me (begin w day minute) e =
    let b = begin_of y c me w in
    planned_settings Good (begin_number s day minute b.number) b.answer (begins w ∷ []) (settled_as 0 no_tenths c s) s
    (λ n. sound_number _ (settled_sound c s (sound_parts s e) 0 (omega arith) no_tenths (length-replicate {A = ℕ} 8 0) refl)) e
plan_sound y c s me (batch w day minute list) e =
    let b = begin_of y c me w in
    let k = classes_in s in
    let t = tenths c s in
    planned_settings Good (batch_number s day minute list b.number) b.answer (adding (booked c s list) (begins w ∷ []))
    (settled_as 1 (left_of k t list) c s) s
    (λ n. sound_number _ (settled_sound c s (sound_parts s e) 1 (omega arith) (left_of k t list) (length_left k t list) (every_left k t list))) e
plan_sound y c s me (edit x) e =
    let b = edit_of c me x in
    planned_settings Good (barred (adds s) b.number) b.answer (edits x ∷ []) s s (λ n. e) e
plan_sound y c s me request e = by (adds s && (eqb (request_commit_of y c me).number 0 && any_past c))
  where
    by : (b : Bool) → settings_number (cond b (record { number = 9; answer = 2; deeds = aborts ∷ []; settings = s })
        (planned (request_commit_of y c me).number (request_commit_of y c me).answer (asks ∷ cond (adds s) (summing (in_use c) []) []) s s)).settings ≡ 0
    by true = e
    by false = planned_settings Good (request_commit_of y c me).number (request_commit_of y c me).answer
        (asks ∷ cond (adds s) (summing (in_use c) []) []) s s (λ n. e) e
plan_sound y c s me (load_classes list) e =
    planned_settings Good (classes_number c me list) 0 [] (classed s list) s
    (λ n. let z = classes_accepted c me list n in sound_number _ (classed_sound s list (sound_parts s e) z.0 z.1)) e

-- ---- a number other than 0 leaves record and settings, but where a batch is given up: then the settings stay, and the deed is the record's own abort
Leaves : List ℕ → Plan → Type 0
Leaves s p = (p.number ≡ 0 → ⊥) → (p ≡ refused_plan p.number s) ⊎ (p ≡ given_up s)

planned_leaves : (number answer : ℕ) (deeds : List Deed) (s' s : List ℕ) → Leaves s (planned number answer deeds s' s)
unfolding Leaves
planned_leaves number answer deeds s' s = by (eqb number 0)
  where
    made : Bool → Plan
    made b = cond b (record { number = 0; answer = answer; deeds = deeds; settings = s' }) (refused_plan number s)

    by : (b : Bool) → ((made b).number ≡ 0 → ⊥) → (made b ≡ refused_plan (made b).number s) ⊎ (made b ≡ given_up s)
    by true h = absurd (h refl)
    by false h = inl refl

pub refused_or_given_up : (y : System) (c : Coordinator) (s : List ℕ) (me : ℕ) (a : Call) → ((plan y c s me a).number ≡ 0 → ⊥)
    → (plan y c s me a ≡ refused_plan (plan y c s me a).number s) ⊎ (plan y c s me a ≡ given_up s)
unfolding plan Leaves
refused_or_given_up y c s me (begin w day minute) =
    planned_leaves (begin_number s day minute (begin_of y c me w).number) (begin_of y c me w).answer (begins w ∷ []) (settled_as 0 no_tenths c s) s
refused_or_given_up y c s me (batch w day minute list) =
    planned_leaves (batch_number s day minute list (begin_of y c me w).number) (begin_of y c me w).answer (adding (booked c s list) (begins w ∷ []))
    (settled_as 1 (left_of (classes_in s) (tenths c s) list) c s) s
refused_or_given_up y c s me (edit x) = planned_leaves (barred (adds s) (edit_of c me x).number) (edit_of c me x).answer (edits x ∷ []) s s
refused_or_given_up y c s me request = by (adds s && (eqb (request_commit_of y c me).number 0 && any_past c))
  where
    asked : Plan
    asked = planned (request_commit_of y c me).number (request_commit_of y c me).answer (asks ∷ cond (adds s) (summing (in_use c) []) []) s s

    by : (b : Bool) → ((cond b (given_up s) asked).number ≡ 0 → ⊥)
        → (cond b (given_up s) asked ≡ refused_plan (cond b (given_up s) asked).number s) ⊎ (cond b (given_up s) asked ≡ given_up s)
    by true h = inr refl
    by false h = planned_leaves (request_commit_of y c me).number (request_commit_of y c me).answer (asks ∷ cond (adds s) (summing (in_use c) []) []) s s h
refused_or_given_up y c s me (load_classes list) = planned_leaves (classes_number c me list) 0 [] (classed s list) s
