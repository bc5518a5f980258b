-- What the clauses and the cases of the host's calls imply of every record: who the participants are, when a transaction is over, and that serials
-- rise by one at an accepted begin and change at no other call.
use mathlib.Core.Path.{◌≡◌, refl, sym, ◌∙◌, subst}
use mathlib.Core.Bool.{true, false, not, ◌&&◌, ◌||◌}
use mathlib.Core.List.{List}
use mathlib.Core.Logic.{◌⊎◌, inl, inr}
use Prim.Native.Nat.{ℕ, ◌<◌}
use native.Mathlib.Omega.{arith}
use lib.Dec.{T, eqb, ltb, eqb→eq, lt→ltb, T_not, not_T}
use lib.ListN.{length, replicate}
use lib.Seq.{ext_get_or}
use borrow.Author.Tests.{eqb-true, eqb-false}
use Rattle.numbers.specs.Sizes.{most_open, highest}
use Rattle.mask.specs.Mask.{joined, within}
use Rattle.mask.proofs.Tests.{and_both, and_left, and_right, or_cases, T_true}
use Rattle.quorum.specs.Nearest.{mask_of}
use Rattle.coordinator.specs.declared.Object.{Object}
use Rattle.coordinator.specs.declared.Coordinator.{Coordinator}
use Rattle.coordinator.specs.declared.BeginWith.{BeginWith}
use Rattle.coordinator.specs.System.{System}
use Rattle.coordinator.specs.State.{idle_phase, aborted, no_object, idle_after, ready, settled, all_settled, any_used_up, awaited}
use Rattle.coordinator.specs.Calls.{begin_refusals, begun, begin_of, open_refusals, opened, open_of, set_refusals, with_new, set_of, reselect_refusals}
use Rattle.coordinator.specs.Calls.{reselected, reselect_of, request_commit_refusals, requested, request_commit_of, abort_of}
use Rattle.clauses.proofs.Parts.{eq-T, true-T, false-T, on_cond}
use Rattle.clauses.proofs.Sets.{within_none}
use Rattle.clauses.proofs.Places.{at, at_blank, across_at, across_none}
use Rattle.clauses.proofs.Facts.{Meets}
use Rattle.clauses.proofs.Quorums.{Quorums}
use Rattle.clauses.proofs.Cases.{step_keeps, Endings, abort_cases}

-- ---- the participants: a write quorum, and every contacted node
pub record Participants (s : System) (c : Coordinator) : Type 0 where
  pub write_quorum : T (s.is_write c.participants)
  pub has_contacted : T (within c.contacted c.participants)

pub participants_contain : (s : System) (c : Coordinator) → Meets s c → (c.participants ≡ 0 → ⊥) → Participants s c
participants_contain s c m n = let f = m.party.full n in record { write_quorum = f.write_quorum; has_contacted = f.everyone }

-- ---- a transaction is over only when every awaited node has said done, or nobody was contacted
-- nobody awaited: nobody contacted, and no vote asked for
pub nobody_awaited : (c : Coordinator) → awaited c ≡ 0 → (c.contacted ≡ 0) × (c.participants ≡ 0)
nobody_awaited c =
    on_cond (λ (w : ℕ). w ≡ 0 → (c.contacted ≡ 0) × (c.participants ≡ 0)) (eqb c.participants 0) c.contacted c.participants
    (λ k e. (e, eqb-true c.participants 0 k)) (λ k e. absurd (eqb-false c.participants 0 k e))

module _ (s : System) (c : Coordinator) (me : ℕ) (busy : c.phase ≡ idle_phase → ⊥) where
  -- no other call of the host ends it
  abbrev Goes : Coordinator → Type 0
  Goes d = d.phase ≡ idle_phase → ⊥

  pub begin_goes_on : (w : BeginWith) → Goes (begin_of s c me w).coordinator
  unfolding begin_of begin_refusals begun
  begin_goes_on w =
      let chosen = s.nearest_read me w.live w.distances in
      step_keeps Goes (begin_refusals c me w chosen) (mask_of chosen) c (begun c w (mask_of chosen)) tt busy (λ k e. omega arith)

  pub open_goes_on : (object mode : ℕ) → Goes (open_of c me object mode).coordinator
  unfolding open_of open_refusals opened
  open_goes_on object mode = step_keeps Goes (open_refusals c me object) 0 c (opened c object mode) tt busy (λ k. busy)

  pub set_goes_on : (object value : ℕ) → Goes (set_of c me object value).coordinator
  unfolding set_of set_refusals with_new
  set_goes_on object value = step_keeps Goes (set_refusals c me object) 0 c (with_new c object value) tt busy (λ k. busy)

  pub reselect_goes_on : (live : ℕ) (distances : List ℕ) → Goes (reselect_of s c me live distances).coordinator
  unfolding reselect_of reselect_refusals reselected
  reselect_goes_on live distances =
      let chosen = s.nearest_read me live distances in
      step_keeps Goes (reselect_refusals c me live chosen) (mask_of chosen) c (reselected c live distances (mask_of chosen)) tt busy (λ k. busy)

  pub request_goes_on : Goes (request_commit_of s c me).coordinator
  unfolding request_commit_of request_commit_refusals requested
  request_goes_on =
      let chosen = s.nearest_write me c.live c.distances in
      let all = joined (mask_of chosen) c.contacted in
      step_keeps Goes (request_commit_refusals s c me chosen) all c (requested c all) tt busy (λ k e. omega arith)

  pub abort_over : (abort_of c me).coordinator.phase ≡ idle_phase → awaited c ≡ 0
  abort_over =
      abort_cases (λ (d : Coordinator). d.phase ≡ idle_phase → awaited c ≡ 0) c me (λ e. absurd (busy e))
      (record { gone = λ a b e. b; aborting = λ a b e. absurd (omega arith) })

-- ---- serials rise by one at an accepted begin (`serial_rises` of the coordinator) and change at no other call
module _ (s : System) (c : Coordinator) (me : ℕ) where
  abbrev Same : Coordinator → Type 0
  Same d = d.serial ≡ c.serial

  pub open_serial : (object mode : ℕ) → Same (open_of c me object mode).coordinator
  unfolding open_of open_refusals opened
  open_serial object mode = step_keeps Same (open_refusals c me object) 0 c (opened c object mode) tt refl (λ k. refl)

  pub set_serial : (object value : ℕ) → Same (set_of c me object value).coordinator
  unfolding set_of set_refusals with_new
  set_serial object value = step_keeps Same (set_refusals c me object) 0 c (with_new c object value) tt refl (λ k. refl)

  pub reselect_serial : (live : ℕ) (distances : List ℕ) → Same (reselect_of s c me live distances).coordinator
  unfolding reselect_of reselect_refusals reselected
  reselect_serial live distances =
      let chosen = s.nearest_read me live distances in
      step_keeps Same (reselect_refusals c me live chosen) (mask_of chosen) c (reselected c live distances (mask_of chosen)) tt refl (λ k. refl)

  pub request_serial : Same (request_commit_of s c me).coordinator
  unfolding request_commit_of request_commit_refusals requested
  request_serial =
      let chosen = s.nearest_write me c.live c.distances in
      let all = joined (mask_of chosen) c.contacted in
      step_keeps Same (request_commit_refusals s c me chosen) all c (requested c all) tt refl (λ k. refl)

  pub idle_serial : (outcome : ℕ) → Same (idle_after c.serial c.timestamp outcome)
  unfolding idle_after
  idle_serial outcome = refl

  pub endings_serial : Endings Same c
  endings_serial = record { gone = λ a b. idle_serial aborted; aborting = λ a b. refl }

  pub abort_serial : Same (abort_of c me).coordinator
  abort_serial = abort_cases Same c me refl endings_serial

-- ---- at idle only the lasting part may differ from a blank record
made : (c d : Coordinator) → c.serial ≡ d.serial → c.timestamp ≡ d.timestamp → c.outcome ≡ d.outcome → c.phase ≡ d.phase → c.live ≡ d.live
    → c.distances ≡ d.distances → c.quorum ≡ d.quorum → c.contacted ≡ d.contacted → c.count ≡ d.count → c.objects ≡ d.objects
    → c.participants ≡ d.participants → c.yes ≡ d.yes → c.done ≡ d.done → c.rivals ≡ d.rivals → c ≡ d
made c d p1 p2 p3 p4 p5 p6 p7 p8 p9 p10 p11 p12 p13 p14 = λ i. record {
  serial = p1 i;
  timestamp = p2 i;
  outcome = p3 i;
  phase = p4 i;
  live = p5 i;
  distances = p6 i;
  quorum = p7 i;
  contacted = p8 i;
  count = p9 i;
  objects = p10 i;
  participants = p11 i;
  yes = p12 i;
  done = p13 i;
  rivals = p14 i;
}

pub idle_blank : (s : System) (c : Coordinator) → Meets s c → c.phase ≡ idle_phase → c ≡ idle_after c.serial c.timestamp c.outcome
unfolding idle_after
idle_blank s c m e =
    let n = m.nodes.at_idle e in
    let none : c.participants ≡ 0 = m.party.not_asked (omega arith) in
    let voted : c.yes ≡ 0 = within_none c.yes (subst (λ (w : ℕ). T (within c.yes w)) none m.votes.of_participants) in
    let done : c.done ≡ 0 = m.dones.no_done (λ f. omega arith) in
    let objects : c.objects ≡ replicate most_open no_object =
    ext_get_or no_object c.objects (replicate most_open no_object) m.sizes.objects_8
    (λ i h. m.objects.past i (let k = n.no_object_lem in omega arith) ∙ sym (at_blank most_open i)) in
    made c (idle_after c.serial c.timestamp c.outcome) refl refl refl e n.no_live n.no_distance n.no_quorum_lem
    (m.nodes.nobody n.no_object_lem) n.no_object_lem objects none voted done (m.party.no_rivals_lem none)

-- ---- what votes are asked for: every object ready, with its new value and a next version where it is written
module _ (s : System) (l : List Object) (n i : ℕ) (h : i < n) (k : i < length l) where
  pub settled_each : all_settled s l n ≡ true → T (ready s (at l i)) × (((at l i).mode ≡ 0) ⊎ ((at l i).given ≡ true))
  unfolding all_settled
  settled_each e =
      let x = at l i in
      let a = across_at (λ (j : ℕ) (y : Object). not (ltb j n) || settled s y) l (true-T (all_settled s l n) e) i k in
      let b = or_cases (T (settled s x)) (not (ltb i n)) (settled s x) (λ f. absurd (T_not (ltb i n) f (lt→ltb i n h))) (λ t. t) a in (
        and_left (ready s x) (eqb x.mode 0 || x.given) b,
        or_cases ((x.mode ≡ 0) ⊎ (x.given ≡ true)) (eqb x.mode 0) x.given (λ t. inl (eqb→eq x.mode 0 t)) (λ t. inr (T_true x.given t))
            (and_right (ready s x) (eqb x.mode 0 || x.given) b),
      )

  pub next_each : any_used_up l n ≡ false → ((at l i).mode ≡ 0 → ⊥) → (at l i).version ≡ highest → ⊥
  unfolding any_used_up
  next_each e written last =
      let x = at l i in
      let g = ltb i n && (not (eqb x.mode 0) && eqb x.version highest) in
      false-T g (across_none (λ (j : ℕ) (y : Object). ltb j n && (not (eqb y.mode 0) && eqb y.version highest)) l e i k)
      (and_both (ltb i n) _ (lt→ltb i n h)
      (and_both (not (eqb x.mode 0)) (eqb x.version highest) (not_T (eqb x.mode 0) (λ t. written (eqb→eq x.mode 0 t)))
      (eq-T x.version highest last)))

-- nobody is contacted only while no object is open
pub some_contacted : (s : System) → Quorums s → (c : Coordinator) → Meets s c → (c.count ≡ 0 → ⊥) → c.contacted ≡ 0 → ⊥
some_contacted s q c m n e =
    q.read_some c.quorum (m.nodes.present (λ d. n (m.nodes.at_idle d).no_object_lem))
    (within_none c.quorum (subst (λ (w : ℕ). T (within c.quorum w)) e (m.nodes.asked n)))
