-- How a step that is no begin leaves a record idle: it was idle or finishing, and its outcome stays; or it was open or voting, it is aborted, and the step
-- does not answer 'committed'. No such step changes a serial; a begin leaves a record, or opens it.
use mathlib.Core.Path.{◌≡◌, refl, sym, subst, ◌∙◌}
use mathlib.Core.Logic.{◌⊎◌, inl, inr}
use mathlib.Core.Bool.{Bool, false, cond, not, ◌&&◌}
use mathlib.Core.List.{List, []}
use Prim.Native.Nat.{ℕ, suc}
use native.Mathlib.Omega.{arith}
use lib.Dec.{eqb, ltb}
use lib.ListN.{length, get_or}
use Rattle.numbers.specs.Sizes.{longest_message}
use Rattle.numbers.specs.Refusal.{first_of}
use Rattle.mask.specs.Mask.{contains, joined}
use Rattle.quorum.specs.Nearest.{mask_of}
use Rattle.wire.specs.Encode.{encode}
use Rattle.wire.specs.Decode.{kind_of, to_of, check_of}
use Rattle.replica.specs.Steps.{Answer, silent, says}
use Rattle.replica.specs.Receive.{deliver}
use Rattle.replica.proofs.Delivered.{either_way}
use Rattle.coordinator.specs.declared.Coordinator.{Coordinator}
use Rattle.coordinator.specs.declared.BeginWith.{BeginWith}
use Rattle.coordinator.specs.Step.{Step as Made}
use Rattle.coordinator.specs.System.{System}
use Rattle.coordinator.specs.State.{idle_phase, open_phase, finishing_phase, committed, aborted, idle_after, step_of}
use Rattle.coordinator.specs.Calls.{no_node, begin_refusals, begun, begin_of, open_refusals, opened, open_of, set_refusals, with_new, set_of, found_of}
use Rattle.coordinator.specs.Calls.{reselect_refusals, reselected, reselect_of, request_commit_refusals, requested, request_commit_of, abort_refusals}
use Rattle.coordinator.specs.Calls.{abort_of}
use Rattle.coordinator.proofs.Theorems.{found_leaves}
use Rattle.arrivals.specs.Receive.{for_replica, receive_of}
use Rattle.clauses.proofs.Cases.{OpenOrVoting, step_keeps, Endings, abort_cases}
use Rattle.clauses_arrive.proofs.Deliveries.{receive_cases}
use Rattle.due.specs.Kind.{due_kind}
use Rattle.due.specs.Due.{message_due}
use Rattle.steps.specs.Station.{Station, system, put_at}
use Rattle.steps.specs.Step.{Call as Step, begin, open_read, open_write, set_value, found, reselect, request_commit, abort, send, delivery, drop, switch}
use Rattle.steps.specs.Step.{Outcome, step, refused_with, taken, putting, full, send_number, hosted, answered, at_replica, at_coordinator, arriving}
use Rattle.steps.specs.Step.{delivery_of}
use Rattle.steps.specs.Step.{drop_of, switch_of, send_of}
use Rattle.protocol.proofs.Tables.{on}
use Rattle.history.proofs.Tests.{no_both}
use Rattle.history.proofs.Carry.{put_all}
use Rattle.history.proofs.Spare.{is_begin}

-- its outcome stays; it is aborted
abbrev pub Stays : Coordinator → Coordinator → Type 0
Stays c d = ((c.phase ≡ idle_phase) ⊎ (c.phase ≡ finishing_phase)) × (d.outcome ≡ c.outcome)

abbrev pub Aborted : Coordinator → Coordinator → ℕ → Type 0
Aborted c d answer = OpenOrVoting c × (d.outcome ≡ aborted) × (answer ≡ committed → ⊥)

pub record Ends (c d : Coordinator) (answer : ℕ) : Type 0 where
  pub serial : d.serial ≡ c.serial
  pub idle : d.phase ≡ idle_phase → Stays c d ⊎ Aborted c d answer

-- ---- a call or a message at a record
module _ (s : System) (c : Coordinator) (n : ℕ) where
  abbrev After : Coordinator → Type 0
  After d = (answer : ℕ) → Ends c d answer

  same : (d : Coordinator) → d.serial ≡ c.serial → d.phase ≡ c.phase → d.outcome ≡ c.outcome → After d
  same d e p q answer = record { serial = e; idle = λ f. inl (inl (sym p ∙ f), q) }

  busy : (d : Coordinator) (k : ℕ) → d.serial ≡ c.serial → d.phase ≡ suc k → After d
  busy d k e p answer = record { serial = e; idle = λ f. absurd (let z : ⊥ = omega (arith, p, f) in z) }

  open_ends : (t mode : ℕ) → After (open_of c n t mode).coordinator
  unfolding open_of open_refusals opened
  open_ends t mode = step_keeps After (open_refusals c n t) 0 c (opened c t mode) tt (same c refl refl refl) (λ k. same _ refl refl refl)

  set_ends : (t v : ℕ) → After (set_of c n t v).coordinator
  unfolding set_of set_refusals with_new
  set_ends t v = step_keeps After (set_refusals c n t) 0 c (with_new c t v) tt (same c refl refl refl) (λ k. same _ refl refl refl)

  found_ends : (t : ℕ) → After (found_of s c n t).coordinator
  found_ends t = subst After (sym (found_leaves s c n t)) (same c refl refl refl)

  reselect_ends : (live : ℕ) (d : List ℕ) → After (reselect_of s c n live d).coordinator
  unfolding reselect_of reselect_refusals reselected
  reselect_ends live d = let q = s.nearest_read n live d in
      step_keeps After (reselect_refusals c n live q) (mask_of q) c (reselected c live d (mask_of q)) tt (same c refl refl refl) (λ k. same _ refl refl refl)

  request_ends : After (request_commit_of s c n).coordinator
  unfolding request_commit_of request_commit_refusals requested
  request_ends =
      let q = s.nearest_write n c.live c.distances in
      let party = joined (mask_of q) c.contacted in
      step_keeps After (request_commit_refusals s c n q) party c (requested c party) tt (same c refl refl refl) (λ k. busy _ 1 refl refl)

  -- it is given up: by a call, whose answer is 0, or by a message
  given_up_lem : (answer : ℕ) → (answer ≡ committed → ⊥) → Endings (λ (d : Coordinator). Ends c d answer) c
  unfolding idle_after
  given_up_lem answer f = record {
    gone = λ u a. record { serial = refl; idle = λ e. inr (u, refl, f) };
    aborting = λ u a. busy _ 2 refl refl answer;
  }

  abort_ends : Ends c (abort_of c n).coordinator 0
  abort_ends = abort_cases (λ (d : Coordinator). Ends c d 0) c n (same c refl refl refl 0) (given_up_lem 0 (λ e. let z : ⊥ = omega (arith, e) in z))

  receive_ends : (b : List ℕ) → Ends c (receive_of s c n b).coordinator (receive_of s c n b).answer
  unfolding idle_after
  receive_ends b = receive_cases (λ (x : Made). Ends c x.coordinator x.answer) s c n b (record {
    as_before = λ number. same c refl refl refl 0;
    copied = λ f. same _ refl refl refl _;
    endings = λ r. given_up_lem aborted (λ e. let z : ⊥ = omega (arith, e) in z);
    last_yes = λ f t. busy _ 2 refl refl _;
    one_yes = λ f t. busy _ 1 refl refl _;
    last_done = λ f t. record { serial = refl; idle = λ e. inl (inr f.in_phase, refl) };
    one_done = λ f t. same _ refl refl refl _;
  })

no_answer : (c : Coordinator) (n : ℕ) → (abort_of c n).answer ≡ 0
unfolding abort_of step_of
no_answer c n = either_way (λ (x : Made). x.answer ≡ 0) (eqb (first_of (abort_refusals c n)) 0) _ _ refl refl

-- ---- a step of the station that is no begin, and each record
module _ (st : Station) (i : ℕ) where
  abbrev pub Kept : Outcome → Type 0
  Kept r = Ends (st.records i) (r.station.records i) r.answer

  as_it_was : (answer : ℕ) → Ends (st.records i) (st.records i) answer
  as_it_was answer = record { serial = refl; idle = λ e. inl (inl e, refl) }

  record_ends : (n : ℕ) (c : Coordinator) (answer : ℕ) → Ends (st.records n) c answer → Ends (st.records i) (put_at st.records n c i) answer
  record_ends n c answer f = put_all (λ (k : ℕ) (d : Coordinator). Ends (st.records k) d answer) st.records n c f
      (λ k e. record { serial = refl; idle = λ q. inl (inl q, refl) }) i

  hosted_ends : (n : ℕ) (x : Made) → ((answer : ℕ) → Ends (st.records n) x.coordinator answer) → Kept (hosted st n x)
  unfolding hosted
  hosted_ends n x f = either_way Kept (contains st.own.on n) _ _
      (either_way Kept (eqb x.number 0) _ _ (record_ends n x.coordinator x.answer (f x.answer)) (as_it_was 0)) (as_it_was 0)

  answered_ends : (k : ℕ) (kept : Bool) (n : ℕ) (l : List ℕ) (a : Answer) → Kept (answered st k kept n l a)
  unfolding answered
  answered_ends k kept n l silent = as_it_was 0
  answered_ends k kept n l (says m) = either_way Kept (kept && full st) _ _ (as_it_was 0) (as_it_was 0)

  arriving_ends : (k : ℕ) (kept : Bool) (b : List ℕ) → Kept (arriving st k kept b)
  unfolding arriving at_replica at_coordinator
  arriving_ends k kept b =
      let n = to_of b in
      let d = deliver longest_message (st.images n) n b in
      let s = receive_of (system st) (st.records n) n b in
      either_way Kept (contains st.own.on n) _ _
      (either_way Kept (for_replica (kind_of b)) _ _
      (either_way Kept (eqb d.number 0) _ _ (answered_ends k kept n d.image d.answer) (as_it_was 0))
      (either_way Kept (eqb s.number 0) _ _
      (record_ends n s.coordinator s.answer (receive_ends (system st) (st.records n) n b)) (as_it_was 0))) (as_it_was 0)

  delivery_ends : (k : ℕ) (kept : Bool) → Kept (delivery_of st k kept)
  unfolding delivery_of
  delivery_ends k kept = let b = get_or st.pool k [] in
      either_way Kept (ltb k (length st.pool)) _ _ (either_way Kept (eqb (check_of b) 0) _ _ (arriving_ends k kept b) (as_it_was 0)) (as_it_was 0)

  send_ends : (n to t : ℕ) → Kept (send_of st n to t)
  unfolding send_of
  send_ends n to t =
      let kind = due_kind (system st) (st.records n) to t in
      let m = message_due (st.records n) n to t kind in
      let due = not (eqb kind 0) in
      either_way Kept (eqb (send_number st n to t m due) 0) (cond due (putting (encode m) st) (taken 0 st)) (refused_with (send_number st n to t m due) st)
      (either_way Kept due (putting (encode m) st) (taken 0 st) (as_it_was 0) (as_it_was 0)) (as_it_was 0)

  -- an abort's answer is 0
  given_up_ends : (n : ℕ) → Kept (hosted st n (abort_of (st.records n) n))
  unfolding hosted
  given_up_ends n = let x = abort_of (st.records n) n in
      either_way Kept (contains st.own.on n) _ _
      (either_way Kept (eqb x.number 0) _ _
      (record_ends n x.coordinator x.answer
      (subst (Ends (st.records n) x.coordinator) (sym (no_answer (st.records n) n)) (abort_ends (system st) (st.records n) n)))
      (as_it_was 0)) (as_it_was 0)

  pub ends_next : (c : Step) → is_begin c ≡ false → Kept (step st c)
  unfolding step drop_of switch_of
  ends_next (begin n a) e = absurd (no_both refl e)
  ends_next (open_read n x) e = hosted_ends n _ (open_ends (system st) (st.records n) n x 0)
  ends_next (open_write n x) e = hosted_ends n _ (open_ends (system st) (st.records n) n x 1)
  ends_next (set_value n x v) e = hosted_ends n _ (set_ends (system st) (st.records n) n x v)
  ends_next (found n x) e = hosted_ends n _ (found_ends (system st) (st.records n) n x)
  ends_next (reselect n live d) e = hosted_ends n _ (reselect_ends (system st) (st.records n) n live d)
  ends_next (request_commit n) e = hosted_ends n _ (request_ends (system st) (st.records n) n)
  ends_next (abort n) e = given_up_ends n
  ends_next (send n to x) e = send_ends n to x
  ends_next (delivery k kept) e = delivery_ends k kept
  ends_next (drop k) e = either_way Kept (ltb k (length st.pool)) _ _ (as_it_was 0) (as_it_was 0)
  ends_next (switch n up) e = either_way Kept (no_node n) _ _ (as_it_was 0) (as_it_was 0)

  -- ---- any step: a begin leaves a record, or opens it
  abbrev EndsOrOpens : Outcome → Type 0
  EndsOrOpens r = Kept r ⊎ ((r.station.records i).phase ≡ open_phase)

  begin_next : (n : ℕ) (w : BeginWith) → EndsOrOpens (step st (begin n w))
  unfolding step hosted begin_of begin_refusals begun
  begin_next n w =
      let x = begin_of (system st) (st.records n) n w in
      let q = (system st).nearest_read n w.live w.distances in
      either_way EndsOrOpens (contains st.own.on n) _ _ (either_way EndsOrOpens (eqb x.number 0) _ _
      (put_all (λ (k : ℕ) (d : Coordinator). Ends (st.records k) d x.answer ⊎ (d.phase ≡ open_phase)) st.records n x.coordinator
      (step_keeps (λ (d : Coordinator). Ends (st.records n) d x.answer ⊎ (d.phase ≡ open_phase)) (begin_refusals (st.records n) n w q) (mask_of q)
      (st.records n) (begun (st.records n) w (mask_of q)) tt (inl (record { serial = refl; idle = λ e. inl (inl e, refl) })) (λ k. inr refl))
      (λ k e. inl (record { serial = refl; idle = λ f. inl (inl f, refl) })) i) (inl (as_it_was 0))) (inl (as_it_was 0))

  pub any_next : (c : Step) → EndsOrOpens (step st c)
  any_next (begin n a) = begin_next n a
  any_next (open_read n x) = inl (ends_next (open_read n x) refl)
  any_next (open_write n x) = inl (ends_next (open_write n x) refl)
  any_next (set_value n x v) = inl (ends_next (set_value n x v) refl)
  any_next (found n x) = inl (ends_next (found n x) refl)
  any_next (reselect n live d) = inl (ends_next (reselect n live d) refl)
  any_next (request_commit n) = inl (ends_next (request_commit n) refl)
  any_next (abort n) = inl (ends_next (abort n) refl)
  any_next (send n to x) = inl (ends_next (send n to x) refl)
  any_next (delivery k kept) = inl (ends_next (delivery k kept) refl)
  any_next (drop k) = inl (ends_next (drop k) refl)
  any_next (switch n up) = inl (ends_next (switch n up) refl)
