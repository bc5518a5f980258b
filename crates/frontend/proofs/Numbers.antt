-- The numbers of calls: of a list that is lent, at what is no node, at a node that is off.
use mathlib.Core.Path.{◌≡◌, refl, sym, ap, ◌∙◌}
use mathlib.Core.Logic.{◌⊎◌, inl, inr}
use mathlib.Core.Bool.{Bool, true, false, cond, not, ◌||◌}
use mathlib.Core.List.{List}
use Prim.Native.Nat.{ℕ, ◌+◌, ◌*◌, ◌≤◌}
use native.Mathlib.Omega.{arith}
use lib.Dec.{eqb, ltb}
use lib.ListN.{length}
use borrow.Author.Tests.{ne_eqb, eqb-true, le-ltb}
use Rattle.numbers.specs.Sizes.{nodes}
use Rattle.hours.specs.Hours.{last_minute}
use Rattle.classes.specs.Classes.{list_size, no_table}
use Rattle.classes.specs.Classes.{length_number as tableLength}
use Rattle.classes.specs.Weights.{weight_count, overweight, batch_length}
use Rattle.coordinator.specs.declared.Coordinator.{Coordinator}
use Rattle.coordinator.specs.declared.BeginWith.{BeginWith}
use Rattle.coordinator.specs.System.{System}
use Rattle.coordinator.specs.Calls.{begin_refusals, begin_of, open_refusals, open_of, set_refusals, set_of, request_commit_refusals, request_commit_of}
use Rattle.increments.specs.Deeds.{Edit, reads, writes, values, edit_of}
use Rattle.deeds.proofs.Number.{step_number}
use Rattle.settings.specs.Settings.{classes_in, adds}
use Rattle.frontend.specs.Plan.{Call, begin, batch, edit, request, load_classes, planned, out_of_turn_after, barred, begin_number, batch_number}
use Rattle.frontend.specs.Plan.{request_by, classes_number, plan, off_number, nowhere, list_number}

-- ---- a list has its length or not
length_one : (t : Bool) → (◌≡◌ {A = ℕ} (cond t 0 1) 0) ⊎ (◌≡◌ {A = ℕ} (cond t 0 1) 1)
length_one true = inl refl
length_one false = inr refl

pub batch_one : (list : List ℕ) → (batch_length list ≡ 0) ⊎ (batch_length list ≡ 1)
unfolding batch_length
batch_one list = length_one (eqb (length list) (2 + 2 * weight_count list))

pub table_one : (list : List ℕ) → (tableLength list ≡ 0) ⊎ (tableLength list ≡ 1)
unfolding tableLength
table_one list = length_one (eqb (length list) (list_size list))

pub list_one : (a : Call) → (list_number a ≡ 0) ⊎ (list_number a ≡ 1)
unfolding list_number
list_one (begin w day minute) = inl refl
list_one (batch w day minute list) = batch_one list
list_one (edit e) = inl refl
list_one request = inl refl
list_one (load_classes list) = table_one list

-- ---- a plan has its number
pub planned_number : (number answer : ℕ) (deeds : List _) (s' s : List ℕ) → (planned number answer deeds s' s).number ≡ number
planned_number number answer deeds s' s = go (eqb number 0) refl
  where
    go : (b : Bool) → eqb number 0 ≡ b → (planned number answer deeds s' s).number ≡ number
    go true e = simp e (sym (eqb-true number 0 e))
    go false e = simp e

-- ---- at what is no node every call is 4
module _ (me : ℕ) (h : nodes ≤ me) where
  pub begin_four : (y : System) (c : Coordinator) (w : BeginWith) → (begin_of y c me w).number ≡ 4
  unfolding begin_of begin_refusals
  begin_four y c w = sym (step_number _ _ _ _) ∙ simp (le-ltb me nodes h)

  edit_four : (c : Coordinator) (e : Edit) → (edit_of c me e).number ≡ 4
  unfolding edit_of open_of open_refusals set_of set_refusals
  edit_four c (reads t) = sym (step_number _ _ _ _) ∙ simp (le-ltb me nodes h)
  edit_four c (writes t) = sym (step_number _ _ _ _) ∙ simp (le-ltb me nodes h)
  edit_four c (values t v) = sym (step_number _ _ _ _) ∙ simp (le-ltb me nodes h)

  request_four : (y : System) (c : Coordinator) → (request_commit_of y c me).number ≡ 4
  unfolding request_commit_of request_commit_refusals
  request_four y c = sym (step_number _ _ _ _) ∙ simp (le-ltb me nodes h)

barred_four : (t : Bool) (k : ℕ) → k ≡ 4 → barred t k ≡ 4
barred_four true k e = simp e
barred_four false k e = e

begin_nowhere : (s : List ℕ) (day minute k : ℕ) → k ≡ 4 → begin_number s day minute k ≡ cond (ltb last_minute minute) 3 4
unfolding begin_number
begin_nowhere s day minute k e = simp e

-- a batch's number, its refusals one after the other
pub batch_first : (s : List ℕ) (day minute : ℕ) (list : List ℕ) (k m : ℕ) → begin_number s day minute (barred (no_table (classes_in s)) k) ≡ m
    → batch_number s day minute list k ≡ cond (not (eqb (batch_length list) 0)) 1 (cond (overweight list) 3 m)
unfolding batch_number
batch_first s day minute list k m e = ap (λ (j : ℕ). cond (not (eqb (batch_length list) 0)) 1 (cond (overweight list) 3 j)) e

classes_nowhere : (c : Coordinator) (me : ℕ) (list : List ℕ) → nodes ≤ me → classes_number c me list ≡ cond (not (eqb (tableLength list) 0)) 1 4
unfolding classes_number
classes_nowhere c me list h = simp (le-ltb me nodes h)

-- votes asked for: what the record refuses
pub request_refused : (t : Bool) (y : System) (c : Coordinator) (s : List ℕ) (me : ℕ) → ((request_commit_of y c me).number ≡ 0 → ⊥)
    → (request_by t y c s me).number ≡ (request_commit_of y c me).number
request_refused true y c s me h = simp (ne_eqb (request_commit_of y c me).number 0 h)
request_refused false y c s me h = simp (ne_eqb (request_commit_of y c me).number 0 h)

pub nowhere_is : (y : System) (c : Coordinator) (s : List ℕ) (me : ℕ) (a : Call) → nodes ≤ me → off_number a (plan y c s me a).number ≡ nowhere a
unfolding plan off_number nowhere
nowhere_is y c s me (begin w day minute) h =
    ap (λ (k : ℕ). cond (eqb k 3) k (out_of_turn_after k))
    (planned_number _ _ _ _ _ ∙ begin_nowhere s day minute _ (begin_four me h y c w)) ∙ go (ltb last_minute minute)
  where
    go : (b : Bool) → (let k = cond b 3 4 in cond (eqb k 3) k (out_of_turn_after k)) ≡ cond b 3 4
    go true = refl
    go false = refl
nowhere_is y c s me (batch w day minute list) h =
    ap (λ (k : ℕ). cond (eqb k 1 || eqb k 3) k (out_of_turn_after k)) (planned_number _ _ _ _ _ ∙ number)
    ∙ go (batch_one list) (overweight list) (ltb last_minute minute)
  where
    inner : begin_number s day minute (barred (no_table (classes_in s)) (begin_of y c me w).number) ≡ cond (ltb last_minute minute) 3 4
    inner = begin_nowhere s day minute _ (barred_four (no_table (classes_in s)) _ (begin_four me h y c w))

    number : batch_number s day minute list (begin_of y c me w).number
        ≡ cond (not (eqb (batch_length list) 0)) 1 (cond (overweight list) 3 (cond (ltb last_minute minute) 3 4))
    number = batch_first s day minute list (begin_of y c me w).number _ inner

    go : (batch_length list ≡ 0) ⊎ (batch_length list ≡ 1) → (x z : Bool)
        → (let k = cond (not (eqb (batch_length list) 0)) 1 (cond x 3 (cond z 3 4)) in cond (eqb k 1 || eqb k 3) k (out_of_turn_after k))
        ≡ cond (not (eqb (batch_length list) 0)) (batch_length list) (cond (x || z) 3 4)
    go (inr e) x z = simp e
    go (inl e) true z = simp e
    go (inl e) false true = simp e
    go (inl e) false false = simp e
nowhere_is y c s me (edit e) h = ap out_of_turn_after (planned_number _ _ _ _ _ ∙ barred_four (adds s) _ (edit_four me h c e))
nowhere_is y c s me request h =
    let e = request_four me h y c in
    ap out_of_turn_after (request_refused (adds s) y c s me (λ z. let k : ⊥ = omega (arith, e, z) in k) ∙ e)
nowhere_is y c s me (load_classes list) h = ap (λ (k : ℕ). cond (eqb k 1 || eqb k 4) k 5) (planned_number _ _ _ _ _ ∙ number) ∙ go (table_one list)
  where
    number : classes_number c me list ≡ cond (not (eqb (tableLength list) 0)) 1 4
    number = classes_nowhere c me list h

    go : (tableLength list ≡ 0) ⊎ (tableLength list ≡ 1)
        → (let k = cond (not (eqb (tableLength list) 0)) 1 4 in cond (eqb k 1 || eqb k 4) k 5) ≡ cond (not (eqb (tableLength list) 0)) (tableLength list) 4
    go (inl e) = simp e
    go (inr e) = simp e
