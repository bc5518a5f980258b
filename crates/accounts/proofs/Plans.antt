-- What a front end's plans are made of. A plan that is refused has no deeds and leaves the settings, but for a request that gives up; of one that goes
-- ahead, all deeds but the oldest are edits and a request; none is a delivery.
use mathlib.Core.Path.{◌≡◌, refl}
use mathlib.Core.Bool.{Bool, true, false, cond, ◌&&◌}
use mathlib.Core.List.{List, [], ◌∷◌}
use Prim.Native.Nat.{ℕ}
use lib.Dec.{eqb}
use borrow.Author.Tests.{eqb-true, eqb-false}
use Rattle.numbers.specs.Numbers.{used_up}
use Rattle.coordinator.specs.declared.Object.{Object}
use Rattle.coordinator.specs.declared.Coordinator.{Coordinator}
use Rattle.coordinator.specs.declared.BeginWith.{BeginWith}
use Rattle.coordinator.specs.System.{System}
use Rattle.coordinator.specs.State.{aborted}
use Rattle.coordinator.specs.Calls.{begin_of, request_commit_of}
use Rattle.increments.specs.Sums.{sum64}
use Rattle.increments.specs.Deeds.{Edit, writes, values, Deed, begins, edits, asks, aborts, edit_of, Amount, adding, in_use, summing, any_past}
use Rattle.classes.specs.Weights.{left_of}
use Rattle.settings.specs.Settings.{classes_in, own_kind, batch_kind, adds, tenths, settled_as, no_tenths, classed}
use Rattle.frontend.specs.Plan.{Call, begin, batch, edit, request, load_classes, Plan, refused_plan, planned, barred, plan}
use Rattle.frontend.specs.Plan.{begin_number, begin_plan, batch_number, booked, batch_plan, edit_plan, request_plan, classes_number}
use Rattle.accounts.proofs.Follows.{Following}

-- ---- a plan goes ahead, or it is refused
pub planned_cases : (P : Plan → Type 0) (number answer : ℕ) (deeds : List Deed) (after s : List ℕ)
    → (number ≡ 0 → P (record { number = 0; answer = answer; deeds = deeds; settings = after }))
    → ((number ≡ 0 → ⊥) → P (refused_plan number s)) → P (planned number answer deeds after s)
planned_cases P number answer deeds after s f g = by (eqb number 0) refl
  where
    by : (b : Bool) → eqb number 0 ≡ b
        → P (cond b (record { number = 0; answer = answer; deeds = deeds; settings = after }) (refused_plan number s))
    by true e = f (eqb-true number 0 e)
    by false e = g (eqb-false number 0 e)

pub begin_cases : (P : Plan → Type 0) (y : System) (c : Coordinator) (s : List ℕ) (me : ℕ) (w : BeginWith) (day minute : ℕ)
    → (begin_number s day minute (begin_of y c me w).number ≡ 0
    → P (record { number = 0; answer = (begin_of y c me w).answer; deeds = begins w ∷ []; settings = settled_as own_kind no_tenths c s }))
    → ((begin_number s day minute (begin_of y c me w).number ≡ 0 → ⊥) → P (refused_plan (begin_number s day minute (begin_of y c me w).number) s))
    → P (begin_plan y c s me w day minute)
begin_cases P y c s me w day minute = planned_cases P (begin_number s day minute (begin_of y c me w).number) (begin_of y c me w).answer (begins w ∷ [])
    (settled_as own_kind no_tenths c s) s

pub batch_cases : (P : Plan → Type 0) (y : System) (c : Coordinator) (s : List ℕ) (me : ℕ) (w : BeginWith) (day minute : ℕ) (list : List ℕ)
    → (batch_number s day minute list (begin_of y c me w).number ≡ 0
    → P (record {
      number = 0;
      answer = (begin_of y c me w).answer;
      deeds = adding (booked c s list) (begins w ∷ []);
      settings = settled_as batch_kind (left_of (classes_in s) (tenths c s) list) c s;
    }))
    → ((batch_number s day minute list (begin_of y c me w).number ≡ 0 → ⊥)
    → P (refused_plan (batch_number s day minute list (begin_of y c me w).number) s))
    → P (batch_plan y c s me w day minute list)
batch_cases P y c s me w day minute list = planned_cases P (batch_number s day minute list (begin_of y c me w).number) (begin_of y c me w).answer
    (adding (booked c s list) (begins w ∷ [])) (settled_as batch_kind (left_of (classes_in s) (tenths c s) list) c s) s

pub edit_cases : (P : Plan → Type 0) (c : Coordinator) (s : List ℕ) (me : ℕ) (e : Edit)
    → (barred (adds s) (edit_of c me e).number ≡ 0 → P (record { number = 0; answer = (edit_of c me e).answer; deeds = edits e ∷ []; settings = s }))
    → ((barred (adds s) (edit_of c me e).number ≡ 0 → ⊥) → P (refused_plan (barred (adds s) (edit_of c me e).number) s)) → P (edit_plan c s me e)
edit_cases P c s me e = planned_cases P (barred (adds s) (edit_of c me e).number) (edit_of c me e).answer (edits e ∷ []) s s

pub load_cases : (P : Plan → Type 0) (c : Coordinator) (s : List ℕ) (me : ℕ) (list : List ℕ)
    → (classes_number c me list ≡ 0 → P (record { number = 0; answer = 0; deeds = []; settings = classed s list }))
    → ((classes_number c me list ≡ 0 → ⊥) → P (refused_plan (classes_number c me list) s)) → P (planned (classes_number c me list) 0 [] (classed s list) s)
load_cases P c s me list = planned_cases P (classes_number c me list) 0 [] (classed s list) s

-- a request: it gives up, adds its sums, is the host's own, or is refused
pub request_cases : (P : Plan → Type 0) (y : System) (c : Coordinator) (s : List ℕ) (me : ℕ)
    → (adds s ≡ true → (request_commit_of y c me).number ≡ 0 → any_past c ≡ true
    → P (record { number = used_up; answer = aborted; deeds = aborts ∷ []; settings = s }))
    → (adds s ≡ true → (request_commit_of y c me).number ≡ 0 → any_past c ≡ false
    → P (record { number = 0; answer = (request_commit_of y c me).answer; deeds = asks ∷ summing (in_use c) []; settings = s }))
    → (adds s ≡ false → (request_commit_of y c me).number ≡ 0
    → P (record { number = 0; answer = (request_commit_of y c me).answer; deeds = asks ∷ []; settings = s }))
    → (((request_commit_of y c me).number ≡ 0 → ⊥) → P (refused_plan (request_commit_of y c me).number s))
    → P (request_plan y c s me)
request_cases P y c s me f g h k = by (adds s) (eqb n 0) (any_past c) refl refl refl
  where
    n : ℕ
    n = (request_commit_of y c me).number

    m : ℕ
    m = (request_commit_of y c me).answer

    by : (t b q : Bool) → adds s ≡ t → eqb n 0 ≡ b → any_past c ≡ q
        → P (cond (t && (b && q)) (record { number = used_up; answer = aborted; deeds = aborts ∷ []; settings = s })
        (cond b (record { number = 0; answer = m; deeds = asks ∷ cond t (summing (in_use c) []) []; settings = s }) (refused_plan n s)))
    by true true true a e x = f a (eqb-true n 0 e) x
    by true true false a e x = g a (eqb-true n 0 e) x
    by true false q a e x = k (eqb-false n 0 e)
    by false true q a e x = h a (eqb-true n 0 e)
    by false false q a e x = k (eqb-false n 0 e)

-- ---- what edits keep of a list of deeds, the deeds of amounts keep; what new values keep, those of sums
module _ (P : List Deed → Type 0) where
  pub adding_keeps : ((e : Edit) (ds : List Deed) → P ds → P (edits e ∷ ds)) → (l : List Amount) (ds : List Deed) → P ds → P (adding l ds)
  unfolding adding
  adding_keeps more [] ds p = p
  adding_keeps more (a ∷ l) ds p =
      let w = edits (writes a.object) ∷ ds in
      adding_keeps more l (edits (values a.object a.grams) ∷ w) (more (values a.object a.grams) w (more (writes a.object) ds p))

  pub summing_keeps : ((t v : ℕ) (ds : List Deed) → P ds → P (edits (values t v) ∷ ds)) → (l : List Object) (ds : List Deed) → P ds → P (summing l ds)
  unfolding summing
  summing_keeps more [] ds p = p
  summing_keeps more (x ∷ l) ds p =
      let v = sum64 x.value x.new in
      summing_keeps more l (edits (values x.object v) ∷ ds) (more x.object v ds p)

-- ---- the deeds that follow
following_edit : (e : Edit) (ds : List Deed) → Following ds → Following (edits e ∷ ds)
following_edit e [] f = tt
following_edit e (d ∷ ds) f = (refl, f)

following_asks : (ds : List Deed) → Following ds → Following (asks ∷ ds)
following_asks [] f = tt
following_asks (d ∷ ds) f = (refl, f)

pub plan_follows : (y : System) (c : Coordinator) (s : List ℕ) (me : ℕ) (a : Call) → Following (plan y c s me a).deeds
unfolding plan
plan_follows y c s me (begin w day minute) = begin_cases (λ (p : Plan). Following p.deeds) y c s me w day minute (λ e. tt) (λ e. tt)
plan_follows y c s me (batch w day minute list) = batch_cases (λ (p : Plan). Following p.deeds) y c s me w day minute list
    (λ e. adding_keeps Following following_edit (booked c s list) (begins w ∷ []) tt) (λ e. tt)
plan_follows y c s me (edit e) = edit_cases (λ (p : Plan). Following p.deeds) c s me e (λ q. tt) (λ q. tt)
plan_follows y c s me request = request_cases (λ (p : Plan). Following p.deeds) y c s me (λ a e f. tt)
    (λ a e f. following_asks (summing (in_use c) []) (summing_keeps Following (λ t v. following_edit (values t v)) (in_use c) [] tt)) (λ a e. tt) (λ e. tt)
plan_follows y c s me (load_classes list) = load_cases (λ (p : Plan). Following p.deeds) c s me list (λ e. tt) (λ e. tt)
