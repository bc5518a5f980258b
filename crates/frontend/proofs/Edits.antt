-- An open or a value call: on a batch 5, or 4 at what is no node; else the record's own.
use mathlib.Core.Path.{◌≡◌, refl, sym, ap, ◌∙◌}
use mathlib.Core.Bool.{Bool, true, false, cond, not, ◌||◌}
use mathlib.Core.List.{List, [], ◌∷◌}
use Prim.Native.Nat.{ℕ}
use native.Mathlib.Omega.{arith}
use lib.Dec.{eqb, ltb}
use Rattle.numbers.specs.Sizes.{objects, most_open}
use Rattle.coordinator.specs.declared.Coordinator.{Coordinator}
use Rattle.coordinator.specs.System.{System}
use Rattle.coordinator.specs.State.{open_phase, object_at, is_open, all_settled, any_used_up}
use Rattle.coordinator.specs.Calls.{no_node, is_none, open_refusals, open_of, set_refusals, set_of, request_commit_refusals, request_commit_of}
use Rattle.increments.specs.Deeds.{Edit, reads, writes, values, Deed, edits, edit_of, deed_of}
use Rattle.octets.proofs.Laws.{Bytes}
use Rattle.record.specs.Record.{record_of, bytes_of}
use Rattle.record.specs.Call.{called, kept}
use Rattle.record.specs.Call.{told_by as toldByStep}
use Rattle.record.proofs.Kept.{same_bytes}
use Rattle.deeds.proofs.Number.{step_number}
use Rattle.settings.specs.Settings.{adds}
use Rattle.frontend.specs.Plan.{Plan, edit, planned, refused_plan, out_of_turn_after, barred, edit_plan, plan, told_by, left_by}
use Rattle.frontend.specs.Plan.{lent_number, front_told, front_record}
use Rattle.frontend.proofs.First.{lent_none, edit_first, plan_told, plan_record}
use Rattle.frontend.proofs.Deed.{step_told, plan_refused, deed_left, refused_left}

-- ---- out of turn: 4 exactly where there is no node
late_open : (t a b d : Bool) → out_of_turn_after (cond t 4 (cond a 5 (cond b 6 (cond d 7 0)))) ≡ cond t 4 5
late_open true a b d = refl
late_open false true b d = refl
late_open false false true d = refl
late_open false false false true = refl
late_open false false false false = refl

late_set : (t a b : Bool) → out_of_turn_after (cond t 4 (cond a 5 (cond b 6 0))) ≡ cond t 4 5
late_set true a b = refl
late_set false true b = refl
late_set false false true = refl
late_set false false false = refl

late_votes : (t a b d e : Bool) → out_of_turn_after (cond t 4 (cond a 5 (cond b 11 (cond d 8 (cond e 9 0))))) ≡ cond t 4 5
late_votes true a b d e = refl
late_votes false true b d e = refl
late_votes false false true d e = refl
late_votes false false false true e = refl
late_votes false false false false true = refl
late_votes false false false false false = refl

open_late : (c : Coordinator) (me t mode : ℕ) → out_of_turn_after (open_of c me t mode).number ≡ cond (no_node me) 4 5
unfolding open_of open_refusals
open_late c me t mode =
    ap out_of_turn_after (sym (step_number _ _ _ _))
    ∙ late_open (no_node me) (not (eqb c.phase open_phase)) (not (ltb t objects) || is_open c t) (not (ltb c.count most_open))

pub edit_late : (c : Coordinator) (me : ℕ) (e : Edit) → out_of_turn_after (edit_of c me e).number ≡ cond (no_node me) 4 5
unfolding edit_of set_of set_refusals
edit_late c me (reads t) = open_late c me t 0
edit_late c me (writes t) = open_late c me t 1
edit_late c me (values t v) =
    ap out_of_turn_after (sym (step_number _ _ _ _))
    ∙ late_set (no_node me) (not (eqb c.phase open_phase)) (not (is_open c t) || eqb (object_at c t).mode 0)

pub request_late : (y : System) (c : Coordinator) (me : ℕ) → out_of_turn_after (request_commit_of y c me).number ≡ cond (no_node me) 4 5
unfolding request_commit_of request_commit_refusals
request_late y c me =
    ap out_of_turn_after (sym (step_number _ _ _ _))
    ∙ late_votes (no_node me) (not (eqb c.phase open_phase)) (eqb c.count 0 || not (all_settled y c.objects c.count))
    (is_none (y.nearest_write me c.live c.distances)) (any_used_up c.objects c.count)

-- ---- what an open or a value call tells
pub edit_told : (c : Coordinator) (me : ℕ) (e : Edit) (ds : List Deed) (s' s : List ℕ)
    → toldByStep (edit_of c me e) ≡ told_by (planned (edit_of c me e).number (edit_of c me e).answer ds s' s)
unfolding edit_of open_of set_of
edit_told c me (reads t) ds s' s = step_told _ _ _ _ ds s' s
edit_told c me (writes t) ds s' s = step_told _ _ _ _ ds s' s
edit_told c me (values t v) ds s' s = step_told _ _ _ _ ds s' s

-- ---- on a batch
some : (t : Bool) → ◌≡◌ {A = ℕ} (cond t 4 5) 0 → ⊥
some true e = omega (arith, e)
some false e = omega (arith, e)

batch_edit : (c : Coordinator) (s : List ℕ) (me : ℕ) (e : Edit) → adds s ≡ true → edit_plan c s me e ≡ refused_plan (cond (no_node me) 4 5) s
batch_edit c s me e h =
    ap (λ (t : Bool). planned (barred t (edit_of c me e).number) (edit_of c me e).answer (edits e ∷ []) s s) h
    ∙ ap (λ (k : ℕ). planned k (edit_of c me e).answer (edits e ∷ []) s s) (edit_late c me e)
    ∙ plan_refused (cond (no_node me) 4 5) _ (edits e ∷ []) s s (some (no_node me))

module _ (l s : List ℕ) (small : Bytes l) (fine : lent_number l s ≡ 0) (me : ℕ) (e : Edit) where
  abbrev c : Coordinator
  c = record_of l

  same : bytes_of (record_of l) ≡ l
  same = same_bytes l small (lent_none l s fine).0

  module _ (h : adds s ≡ true) where
    pub batch_edit_told : (k : ℕ) → k ≡ cond (no_node me) 4 5 → called k 0 ≡ front_told l s me (edit e)
    unfolding plan
    batch_edit_told k n =
        ap (λ (j : ℕ). called j 0) n ∙ ap told_by (sym (batch_edit c s me e h)) ∙ plan_told l s me (edit e) (edit_first l s e ∙ fine)

    pub batch_edit_record : l ≡ front_record l s me (edit e)
    unfolding plan
    batch_edit_record =
        refused_left l same me (cond (no_node me) 4 5) s
        ∙ ap (λ (p : Plan). left_by p l me) (sym (batch_edit c s me e h)) ∙ plan_record l s me (edit e) (edit_first l s e ∙ fine)

  -- ---- on the host's own transaction
  module _ (h : adds s ≡ false) where
    own : planned (edit_of c me e).number (edit_of c me e).answer (edits e ∷ []) s s ≡ edit_plan c s me e
    own = sym (ap (λ (t : Bool). planned (barred t (edit_of c me e).number) (edit_of c me e).answer (edits e ∷ []) s s) h)

    pub own_edit_told : toldByStep (edit_of c me e) ≡ front_told l s me (edit e)
    unfolding plan
    own_edit_told = edit_told c me e (edits e ∷ []) s s ∙ ap told_by own ∙ plan_told l s me (edit e) (edit_first l s e ∙ fine)

    pub own_edit_record : kept (edit_of c me e) l ≡ front_record l s me (edit e)
    unfolding plan deed_of
    own_edit_record =
        deed_left l same me (edits e) (edit_of c me e).answer s s
        ∙ ap (λ (p : Plan). left_by p l me) own ∙ plan_record l s me (edit e) (edit_first l s e ∙ fine)
