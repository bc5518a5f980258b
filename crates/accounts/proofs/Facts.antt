-- What the kind in a node's settings is after each change of them, and what the numbers of accepted calls say.
use mathlib.Core.Path.{◌≡◌, refl, ap, ◌∙◌}
use mathlib.Core.Logic.{inr}
use mathlib.Core.Bool.{Bool, true, false, cond, not, ◌&&◌, ◌||◌}
use mathlib.Core.List.{List}
use Prim.Native.Nat.{ℕ}
use native.Mathlib.Omega.{arith}
use lib.Dec.{eqb, ltb}
use lib.ListN.{length}
use borrow.Author.Tests.{eqb-true}
use Rattle.parts.proofs.Laws.{get_d_splice}
use Rattle.hours.specs.Kept.{kept_size, stored, closed}
use Rattle.hours.proofs.Theorems.{length_stored}
use Rattle.classes.specs.Classes.{most_classes, table_number, strange, no_table}
use Rattle.classes.specs.Classes.{length_number as tableLength}
use Rattle.classes.specs.Weights.{overweight, batch_length}
use Rattle.quorum.specs.Choice.{Choice}
use Rattle.replica.proofs.Delivered.{past}
use Rattle.coordinator.specs.declared.Coordinator.{Coordinator}
use Rattle.coordinator.specs.declared.BeginWith.{BeginWith}
use Rattle.coordinator.specs.System.{System}
use Rattle.coordinator.specs.State.{idle_phase, open_phase, voting_phase}
use Rattle.deeds.proofs.Number.{step_number}
use Rattle.coordinator.specs.Calls.{no_node, begun, begin_of, open_refusals, open_of, set_refusals, set_of}
use Rattle.coordinator.specs.Calls.{request_commit_refusals, requested, request_commit_of}
use Rattle.coordinator.proofs.Refusals.{Clear, clear}
use Rattle.coordinator.proofs.Theorems.{taken_after}
use Rattle.increments.specs.Deeds.{Edit, reads, writes, values, edit_of}
use Rattle.steps.proofs.Nodes.{off_number_lem}
use Rattle.settings.specs.Settings.{settings_size, hours_in, classes_in, own_kind, batch_kind, settled_as, no_tenths, loaded}
use Rattle.settings.specs.Settings.{adds as kindAdds}
use Rattle.settings.proofs.Sound.{settled_kind}
use Rattle.frontend.specs.Plan.{Call, begin, batch, edit, request, load_classes, out_of_turn_after, barred, begin_number, batch_number, classes_number}
use Rattle.frontend.specs.Plan.{off_number}
use Rattle.history.proofs.Tests.{not-false}

-- ---- the kind
-- a transaction that begins settles it
pub own_kind_lem : (c : Coordinator) (s : List ℕ) → length s ≡ settings_size → kindAdds (settled_as own_kind no_tenths c s) ≡ false
own_kind_lem c s e = ap (λ (k : ℕ). not (eqb k own_kind)) (settled_kind c s e own_kind no_tenths refl)

pub batch_kind_lem : (left : List ℕ) (c : Coordinator) (s : List ℕ) → length left ≡ most_classes → length s ≡ settings_size
    → kindAdds (settled_as batch_kind left c s) ≡ true
batch_kind_lem left c s h e = ap (λ (k : ℕ). not (eqb k own_kind)) (settled_kind c s e batch_kind left h)

-- hours that are loaded leave it
pub loaded_kind : (s list : List ℕ) → length s ≡ settings_size → kindAdds (loaded s list) ≡ kindAdds s
loaded_kind s list e = ap (λ (k : ℕ). not (eqb k own_kind))
    (get_d_splice kept_size 0 (stored list) s (length_stored list) (omega (arith, e)) 211 (inr (omega arith)))

-- ---- numbers
pub barred_none : (t : Bool) (k : ℕ) → barred t k ≡ 0 → (t ≡ false) × (k ≡ 0)
barred_none true k e = absurd (off_number_lem k e)
barred_none false k e = (refl, e)

-- a begin that its front end accepts, its record accepts
pub begin_none : (s : List ℕ) (day minute k : ℕ) → begin_number s day minute k ≡ 0 → k ≡ 0
unfolding begin_number
begin_none s day minute k = by (ltb 10079 minute) (eqb k 0) (closed (hours_in s) day minute) refl
  where
    by : (a b d : Bool) → eqb k 0 ≡ b → cond a 3 (cond (b && d) 13 k) ≡ 0 → k ≡ 0
    by true b d p e = absurd (let z : ⊥ = omega (arith, e) in z)
    by false true d p e = eqb-true k 0 p
    by false false d p e = e

pub batch_none : (s : List ℕ) (day minute : ℕ) (list : List ℕ) (k : ℕ) → batch_number s day minute list k ≡ 0 → (overweight list ≡ false) × (k ≡ 0)
unfolding batch_number
batch_none s day minute list k = by (not (eqb (batch_length list) 0)) (overweight list)
  where
    number : ℕ
    number = begin_number s day minute (barred (no_table (classes_in s)) k)

    by : (a b : Bool) → cond a 1 (cond b 3 number) ≡ 0 → (b ≡ false) × (k ≡ 0)
    by true b e = absurd (let z : ⊥ = omega (arith, e) in z)
    by false true e = absurd (let z : ⊥ = omega (arith, e) in z)
    by false false e = (refl, (barred_none (no_table (classes_in s)) k (begin_none s day minute _ e)).1)

-- classes are loaded while idle
pub load_idle : (c : Coordinator) (me : ℕ) (list : List ℕ) → classes_number c me list ≡ 0 → c.phase ≡ idle_phase
unfolding classes_number table_number
load_idle c me list e =
    let a = past (not (eqb (tableLength list) 0)) 0 _ e in
    let b = past (no_node me) 3 _ a.1 in
    let d = past (strange list) 5 _ b.1 in
    eqb-true c.phase idle_phase (not-false _ (past (not (eqb c.phase idle_phase)) 9 _ d.1).0)

-- at a node that is off none is accepted
pub off_front : (a : Call) (k : ℕ) → off_number a k ≡ 0 → ⊥
unfolding off_number
off_front (begin w day minute) k e = by (eqb k 3) refl e
  where
    by : (b : Bool) → eqb k 3 ≡ b → cond b k (out_of_turn_after k) ≡ 0 → ⊥
    by true p q = let z = eqb-true k 3 p in omega (arith, q, z)
    by false p q = off_number_lem k q
off_front (batch w day minute list) k e = by (eqb k 1) (eqb k 3) refl refl e
  where
    by : (a b : Bool) → eqb k 1 ≡ a → eqb k 3 ≡ b → cond (a || b) k (out_of_turn_after k) ≡ 0 → ⊥
    by true b p r q = let z = eqb-true k 1 p in omega (arith, q, z)
    by false true p r q = let z = eqb-true k 3 r in omega (arith, q, z)
    by false false p r q = off_number_lem k q
off_front (edit d) k e = off_number_lem k e
off_front request k e = off_number_lem k e
off_front (load_classes list) k e = by (eqb k 1) (eqb k 4) refl refl e
  where
    by : (a b : Bool) → eqb k 1 ≡ a → eqb k 4 ≡ b → cond (a || b) k 5 ≡ 0 → ⊥
    by true b p r q = let z = eqb-true k 1 p in omega (arith, q, z)
    by false true p r q = let z = eqb-true k 4 r in omega (arith, q, z)
    by false false p r q = omega (arith, q)

-- ---- what accepted calls found and leave
pub edit_phase : (c : Coordinator) (me : ℕ) (e : Edit) → (edit_of c me e).number ≡ 0 → c.phase ≡ open_phase
unfolding edit_of open_of open_refusals set_of set_refusals
edit_phase c me (reads t) q = eqb-true c.phase open_phase (not-false _ (clear (open_refusals c me t) tt (step_number _ _ _ _ ∙ q)).1.0)
edit_phase c me (writes t) q = eqb-true c.phase open_phase (not-false _ (clear (open_refusals c me t) tt (step_number _ _ _ _ ∙ q)).1.0)
edit_phase c me (values t v) q = eqb-true c.phase open_phase (not-false _ (clear (set_refusals c me t) tt (step_number _ _ _ _ ∙ q)).1.0)

pub begun_open : (s : System) (c : Coordinator) (me : ℕ) (w : BeginWith) → (begin_of s c me w).number ≡ 0 → (begin_of s c me w).coordinator.phase ≡ open_phase
unfolding begin_of begun
begun_open s c me w q = ap (λ (d : Coordinator). d.phase) (taken_after _ _ _ _ q)

module _ (s : System) (me : ℕ) where
  abbrev chosen : Coordinator → Choice
  chosen c = s.nearest_write me c.live c.distances

  pub request_clear : (c : Coordinator) → (request_commit_of s c me).number ≡ 0 → Clear (request_commit_refusals s c me (chosen c))
  unfolding request_commit_of request_commit_refusals
  request_clear c q = clear (request_commit_refusals s c me (chosen c)) tt (step_number _ _ _ _ ∙ q)

  pub request_phase : (c : Coordinator) → (request_commit_of s c me).number ≡ 0 → c.phase ≡ open_phase
  unfolding request_commit_refusals
  request_phase c q = eqb-true c.phase open_phase (not-false _ (request_clear c q).1.0)

  pub request_votes : (c : Coordinator) → (request_commit_of s c me).number ≡ 0 → (request_commit_of s c me).coordinator.phase ≡ voting_phase
  unfolding request_commit_of requested
  request_votes c q = ap (λ (d : Coordinator). d.phase) (taken_after _ _ _ _ q)
