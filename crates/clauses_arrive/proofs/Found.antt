-- Found never changes once ready: an object that is open and ready stays so, in its mode, with the version and value found, over every call and
-- delivery, until the transaction is over. A record that meets its clauses has it at one place, and that place is left alone or keeps what was found.
use mathlib.Core.Path.{◌≡◌, refl, sym, ap, ◌∙◌, subst}
use mathlib.Core.Bool.{not}
use mathlib.Core.List.{List}
use mathlib.Core.Logic.{◌⊎◌, inl, inr}
use Prim.Native.Nat.{ℕ, ◌<◌, ◌≤◌}
use native.Mathlib.Omega.{arith}
use lib.Dec.{T, eqb, ltb}
use lib.ListN.{length, set}
use borrow.Author.Tests.{eqb-true, ltb-true, not-false}
use Rattle.numbers.specs.Sizes.{most_open}
use Rattle.mask.specs.Mask.{joined}
use Rattle.quorum.specs.Nearest.{mask_of}
use Rattle.wire.specs.Items.{entry_of}
use Rattle.coordinator.specs.declared.Object.{Object}
use Rattle.coordinator.specs.declared.Coordinator.{Coordinator}
use Rattle.coordinator.specs.declared.BeginWith.{BeginWith}
use Rattle.coordinator.specs.Step.{Step}
use Rattle.coordinator.specs.System.{System}
use Rattle.coordinator.specs.State.{idle_phase, aborted, idle_after, place_in, place_of, object_at, is_open, ready}
use Rattle.coordinator.specs.Calls.{fresh, renewed, begin_refusals, begun, begin_of, open_refusals, opened, open_of, set_refusals, with_new, set_of}
use Rattle.coordinator.specs.Calls.{reselect_refusals, reselected, reselect_of, request_commit_refusals, requested, request_commit_of, abort_of}
use Rattle.arrivals.specs.Receive.{receive_of}
use Rattle.clauses.proofs.Parts.{neither_left}
use Rattle.clauses.proofs.Places.{at, place_open, place_at, at_set}
use Rattle.clauses.proofs.Facts.{Meets}
use Rattle.clauses.proofs.Quorums.{Quorums}
use Rattle.clauses.proofs.Cases.{step_keeps, Endings, abort_cases}
use Rattle.clauses_arrive.proofs.Deliveries.{CopyFitting, copied_object, after_copy, receive_cases}
use Rattle.clauses.proofs.Keep.{open_keeps, set_keeps}
use Rattle.clauses_arrive.proofs.Deliver.{receive_keeps}

-- what is shown of an object: ready, its mode, the version and value found
pub record Looks (s : System) (mode version value : ℕ) (x : Object) : Type 0 where
  pub is_ready : T (ready s x)
  pub its_mode : x.mode ≡ mode
  pub its_version : x.version ≡ version
  pub its_value : x.value ≡ value

-- the object t is open, and this is shown of it
pub record Shown (s : System) (t mode version value : ℕ) (c : Coordinator) : Type 0 where
  pub is_open : place_of c t < most_open
  pub looks : Looks s mode version value (object_at c t)

module _ (s : System) (q : Quorums s) (c : Coordinator) (me : ℕ) (m : Meets s c) (t mode version value : ℕ) (h : Shown s t mode version value c) where
  abbrev S : Coordinator → Type 0
  S d = Shown s t mode version value d

  abbrev p : ℕ
  p = place_of c t

  place : (p < c.count) × ((p < length c.objects) × ((at c.objects p).object ≡ t))
  place = place_open c.objects c.count t h.is_open

  -- a record that meets its clauses and shows it at the same place
  shows : (d : Coordinator) → c.count ≤ d.count → (at d.objects p).object ≡ t → Looks s mode version value (at d.objects p) → Meets s d → S d
  shows d more same look md =
      let k : p < d.count = let a = place.0 in omega arith in
      let o = md.objects in
      let found = place_at d.objects d.count md.sizes.objects_8 o.eight_at_most o.once p k in
      let e : p ≡ place_of d t = sym (ap (place_of d) (sym same) ∙ found) in
      let n = o.eight_at_most in
      record {
        is_open = subst (λ (i : ℕ). i < most_open) e (omega arith);
        looks = subst (λ (i : ℕ). Looks s mode version value (at d.objects i)) e look;
      }

  -- an object put at another place, or one that looks the same
  put_shows : (d : Coordinator) (i : ℕ) (x : Object) → d.objects ≡ set c.objects i x → c.count ≤ d.count → i < length c.objects
      → (p ≡ i → (x.object ≡ t) × Looks s mode version value x) → Meets s d → S d
  put_shows d i x e more inside f =
      let both = at_set (λ (y : Object). (y.object ≡ t) × Looks s mode version value y) c.objects i p x inside f (λ n. (place.1.1, h.looks)) in
      let l = subst (λ (l : List Object). ((at l p).object ≡ t) × Looks s mode version value (at l p)) (sym e) both in
      shows d more l.0 l.1

  -- ---- the calls
  pub begin_shows : (w : BeginWith) → S (begin_of s c me w).coordinator
  unfolding begin_of begin_refusals
  begin_shows w =
      let chosen = s.nearest_read me w.live w.distances in
      step_keeps S (begin_refusals c me w chosen) (mask_of chosen) c (begun c w (mask_of chosen)) tt h
      (λ k. let e : c.phase ≡ idle_phase = eqb-true c.phase idle_phase (not-false (eqb c.phase idle_phase) k.1.0) in
      let n : c.count ≡ 0 = (m.nodes.at_idle e).no_object_lem in
      absurd (let a = place.0 in omega arith))

  pub open_shows : (object mode' : ℕ) → mode' < 2 → S (open_of c me object mode').coordinator
  unfolding open_of open_refusals opened
  open_shows object mode' b =
      step_keeps (λ (d : Coordinator). Meets s d → S d) (open_refusals c me object) 0 c (opened c object mode') tt (λ z. h)
      (λ k. let room : c.count < most_open = ltb-true c.count most_open (not-false (ltb c.count most_open) k.1.1.1.0) in
      put_shows (opened c object mode') c.count (fresh object mode') refl (omega arith) (let n = m.sizes.objects_8 in omega arith)
      (λ e. absurd (let a = place.0 in omega arith)))
      (open_keeps s q c me m object mode' b)

  pub set_shows : (object new : ℕ) → S (set_of c me object new).coordinator
  unfolding set_of set_refusals with_new
  set_shows object new =
      let i = place_of c object in
      step_keeps (λ (d : Coordinator). Meets s d → S d) (set_refusals c me object) 0 c (with_new c object new) tt (λ z. h)
      (λ k. let o = ltb-true i most_open (not-false (is_open c object) (neither_left (not (is_open c object)) (eqb (object_at c object).mode 0) k.1.1.0)) in
      let r = place_open c.objects c.count object o in
      put_shows (with_new c object new) i (renewed (object_at c object) new) refl (omega arith) r.1.0
      (λ e. let g = subst (λ (j : ℕ). ((at c.objects j).object ≡ t) × Looks s mode version value (at c.objects j)) e (place.1.1, h.looks) in
      (g.0, record { is_ready = g.1.is_ready; its_mode = g.1.its_mode; its_version = g.1.its_version; its_value = g.1.its_value })))
      (set_keeps s q c me m object new)

  -- a record with the same objects
  same_shows : (d : Coordinator) → d.objects ≡ c.objects → d.count ≡ c.count → S d
  same_shows d a b =
      let e : place_of c t ≡ place_of d t = ap (λ (l : List Object). place_in l c.count t) (sym a) ∙ ap (λ (n : ℕ). place_in d.objects n t) (sym b) in
      let f : object_at c t ≡ object_at d t = ap (λ (i : ℕ). at c.objects i) e ∙ ap (λ (l : List Object). at l (place_of d t)) (sym a) in
      record { is_open = subst (λ (i : ℕ). i < most_open) e h.is_open; looks = subst (Looks s mode version value) f h.looks }

  pub reselect_shows : (live : ℕ) (distances : List ℕ) → S (reselect_of s c me live distances).coordinator
  unfolding reselect_of reselect_refusals reselected
  reselect_shows live distances =
      let chosen = s.nearest_read me live distances in
      step_keeps S (reselect_refusals c me live chosen) (mask_of chosen) c (reselected c live distances (mask_of chosen)) tt h
      (λ k. same_shows (reselected c live distances (mask_of chosen)) refl refl)

  pub request_shows : S (request_commit_of s c me).coordinator
  unfolding request_commit_of request_commit_refusals requested
  request_shows =
      let chosen = s.nearest_write me c.live c.distances in
      let all = joined (mask_of chosen) c.contacted in
      step_keeps S (request_commit_refusals s c me chosen) all c (requested c all) tt h (λ k. same_shows (requested c all) refl refl)

  -- ---- idle, or still shown
  abbrev OverOr : Coordinator → Type 0
  OverOr d = (d.phase ≡ idle_phase) ⊎ S d

  idle_over : (outcome : ℕ) → OverOr (idle_after c.serial c.timestamp outcome)
  unfolding idle_after
  idle_over outcome = inl refl

  endings_show : Endings OverOr c
  endings_show = record { gone = λ a e. idle_over aborted; aborting = λ a e. inr (same_shows _ refl refl) }

  pub abort_shows : OverOr (abort_of c me).coordinator
  abort_shows = abort_cases OverOr c me (inr h) endings_show

  -- a copy that fits is of another object, since this one is ready
  copy_shows : (b : List ℕ) → CopyFitting s c me b → Meets s (after_copy c b) → S (after_copy c b)
  copy_shows b f =
      let u = (entry_of b 0).object in
      let r = place_open c.objects c.count u f.is_open in
      put_shows (after_copy c b) (place_of c u) (copied_object c b) refl (omega arith) r.1.0
      (λ e. absurd (f.not_ready_lem (subst (λ (j : ℕ). T (ready s (at c.objects j))) e h.looks.is_ready)))

  pub receive_shows : (b : List ℕ) → OverOr (receive_of s c me b).coordinator
  receive_shows b =
      receive_cases (λ (x : Step). Meets s x.coordinator → OverOr x.coordinator) s c me b
      (record {
        as_before = λ n z. inr h;
        copied = λ f z. inr (copy_shows b f z);
        endings = λ r. record { gone = λ a e z. idle_over aborted; aborting = λ a e z. inr (same_shows _ refl refl) };
        last_yes = λ f e z. inr (same_shows _ refl refl);
        one_yes = λ f e z. inr (same_shows _ refl refl);
        last_done = λ f e z. idle_over c.outcome;
        one_done = λ f e z. inr (same_shows _ refl refl);
      })
      (receive_keeps s c me b m)
