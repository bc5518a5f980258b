-- No step but a begin ends a record's idleness, and none but a begin opens a transaction. So the record of a number above 12, which is no node, stays
-- idle: no begin there is taken.
use mathlib.Core.Path.{◌≡◌, refl, sym, subst, ◌∙◌}
use mathlib.Core.Bool.{Bool, true, false, cond, not, ◌&&◌}
use mathlib.Core.List.{List, []}
use Prim.Native.Nat.{ℕ, suc, ◌≤◌}
use native.Mathlib.Omega.{arith}
use lib.Dec.{eqb, ltb}
use lib.ListN.{length, get_or}
use borrow.Author.Tests.{eqb-true, le-ltb}
use Rattle.numbers.specs.Sizes.{nodes, longest_message}
use Rattle.mask.specs.Mask.{contains, joined}
use Rattle.quorum.specs.Nearest.{mask_of}
use Rattle.wire.specs.Encode.{encode}
use Rattle.wire.specs.Decode.{kind_of, to_of, check_of}
use Rattle.replica.specs.Steps.{Answer, silent, says}
use Rattle.replica.specs.Receive.{deliver}
use Rattle.replica.proofs.Delivered.{either_way}
use Rattle.coordinator.specs.declared.Coordinator.{Coordinator}
use Rattle.coordinator.specs.declared.BeginWith.{BeginWith}
use Rattle.coordinator.specs.Step.{Step}
use Rattle.coordinator.specs.System.{System}
use Rattle.coordinator.specs.State.{idle_phase, open_phase, idle_after}
use Rattle.coordinator.specs.Calls.{no_node, too_wide, begin_refusals, begun, begin_of, open_refusals, opened, open_of, set_refusals, with_new, set_of}
use Rattle.coordinator.specs.Calls.{found_of}
use Rattle.coordinator.specs.Calls.{reselect_refusals, reselected, reselect_of, request_commit_refusals, requested, request_commit_of, abort_of}
use Rattle.coordinator.proofs.Theorems.{found_leaves}
use Rattle.arrivals.specs.Receive.{for_replica, receive_of}
use Rattle.clauses.proofs.Parts.{neither_left}
use Rattle.clauses.proofs.Cases.{step_keeps, Endings, abort_cases}
use Rattle.clauses_arrive.proofs.Deliveries.{receive_cases}
use Rattle.due.specs.Kind.{due_kind}
use Rattle.due.specs.Due.{message_due}
use Rattle.steps.specs.Station.{Station, system, put_at}
use Rattle.steps.specs.Step.{Call, begin, open_read, open_write, set_value, found, reselect, request_commit, abort, send, delivery, drop, switch, Outcome}
use Rattle.steps.specs.Step.{step, refused_with, taken, putting, full, send_number, hosted, answered, at_replica, at_coordinator, arriving, delivery_of}
use Rattle.steps.specs.Step.{drop_of}
use Rattle.steps.specs.Step.{switch_of, send_of}
use Rattle.protocol.proofs.Tables.{on}
use Rattle.history.proofs.Tests.{no_both, not-false}
use Rattle.history.proofs.Carry.{put_all}

-- an idle record stays idle, and what is open was open
pub record Still (c d : Coordinator) : Type 0 where
  pub stays_idle : c.phase ≡ idle_phase → d.phase ≡ idle_phase
  pub was_open : d.phase ≡ open_phase → c.phase ≡ open_phase

-- what was busy is no case of an idle one
not_idle : {P : Type 0} (c : Coordinator) (k : ℕ) → c.phase ≡ suc k → c.phase ≡ idle_phase → P
not_idle c k p e = absurd (let z : ⊥ = omega (arith, p, e) in z)

-- what is open now is no case of one that is not
not_open : {P : Type 0} (n : ℕ) → (n ≡ open_phase → ⊥) → n ≡ open_phase → P
not_open n f e = absurd (f e)

module _ (s : System) (c : Coordinator) (n : ℕ) where
  same : (d : Coordinator) → d.phase ≡ c.phase → Still c d
  same d p = record { stays_idle = λ e. p ∙ e; was_open = λ e. sym p ∙ e }

  -- from a busy phase to one that is not open
  on_from : (k : ℕ) → c.phase ≡ suc k → (d : Coordinator) → (d.phase ≡ open_phase → ⊥) → Still c d
  on_from k p d f = record { stays_idle = not_idle c k p; was_open = not_open d.phase f }

  pub open_still : (t mode : ℕ) → Still c (open_of c n t mode).coordinator
  unfolding open_of open_refusals opened
  open_still t mode = step_keeps (Still c) (open_refusals c n t) 0 c (opened c t mode) tt (same c refl) (λ k. same _ refl)

  pub set_still : (t v : ℕ) → Still c (set_of c n t v).coordinator
  unfolding set_of set_refusals with_new
  set_still t v = step_keeps (Still c) (set_refusals c n t) 0 c (with_new c t v) tt (same c refl) (λ k. same _ refl)

  found_still : (t : ℕ) → Still c (found_of s c n t).coordinator
  found_still t = subst (Still c) (sym (found_leaves s c n t)) (same c refl)

  reselect_still : (live : ℕ) (d : List ℕ) → Still c (reselect_of s c n live d).coordinator
  unfolding reselect_of reselect_refusals reselected
  reselect_still live d = let q = s.nearest_read n live d in
      step_keeps (Still c) (reselect_refusals c n live q) (mask_of q) c (reselected c live d (mask_of q)) tt (same c refl) (λ k. same _ refl)

  pub request_still : Still c (request_commit_of s c n).coordinator
  unfolding request_commit_of request_commit_refusals requested
  request_still =
      let q = s.nearest_write n c.live c.distances in
      let party = joined (mask_of q) c.contacted in
      step_keeps (Still c) (request_commit_refusals s c n q) party c (requested c party) tt (same c refl)
      (λ k. on_from 0 (eqb-true c.phase open_phase (not-false _ k.1.0)) _ (λ e. let z : ⊥ = omega (arith, e) in z))

  idle_again : (stamp outcome : ℕ) → Still c (idle_after c.serial stamp outcome)
  unfolding idle_after
  idle_again stamp outcome = record { stays_idle = λ e. refl; was_open = not_open 0 (λ e. let z : ⊥ = omega (arith, e) in z) }

  ends_still : Endings (Still c) c
  ends_still = record {
    gone = λ u a. idle_again c.timestamp 2;
    aborting = λ u a. on u (λ p. on_from 0 p _ (λ e. let z : ⊥ = omega (arith, e) in z)) (λ p. on_from 1 p _ (λ e. let z : ⊥ = omega (arith, e) in z));
  }

  pub abort_still : Still c (abort_of c n).coordinator
  abort_still = abort_cases (Still c) c n (same c refl) ends_still

  receive_still : (b : List ℕ) → Still c (receive_of s c n b).coordinator
  receive_still b = receive_cases (λ (x : Step). Still c x.coordinator) s c n b (record {
    as_before = λ number. same c refl;
    copied = λ f. same _ refl;
    endings = λ r. ends_still;
    last_yes = λ f t. on_from 1 f.answer.in_phase _ (λ e. let z : ⊥ = omega (arith, e) in z);
    one_yes = λ f t. on_from 1 f.answer.in_phase _ (λ e. let z : ⊥ = omega (arith, e) in z);
    last_done = λ f t. idle_again c.timestamp c.outcome;
    one_done = λ f t. same _ refl;
  })

-- ---- one step that is no begin
abbrev pub is_begin : Call → Bool
is_begin (begin n a) = true
is_begin (open_read n x) = false
is_begin (open_write n x) = false
is_begin (set_value n x v) = false
is_begin (found n x) = false
is_begin (reselect n live d) = false
is_begin (request_commit n) = false
is_begin (abort n) = false
is_begin (send n to x) = false
is_begin (delivery k kept) = false
is_begin (drop k) = false
is_begin (switch n up) = false

module _ (st : Station) (i : ℕ) where
  abbrev Kept : Outcome → Type 0
  Kept r = Still (st.records i) (r.station.records i)

  as_it_was : Still (st.records i) (st.records i)
  as_it_was = record { stays_idle = λ e. e; was_open = λ e. e }

  record_still : (n : ℕ) (c : Coordinator) → Still (st.records n) c → Still (st.records i) (put_at st.records n c i)
  record_still n c f = put_all (λ (k : ℕ) (d : Coordinator). Still (st.records k) d) st.records n c f
      (λ k e. record { stays_idle = λ q. q; was_open = λ q. q }) i

  hosted_still : (n : ℕ) (x : Step) → Still (st.records n) x.coordinator → Kept (hosted st n x)
  unfolding hosted
  hosted_still n x f = either_way Kept (contains st.own.on n) _ _
      (either_way Kept (eqb x.number 0) _ _ (record_still n x.coordinator f) as_it_was) as_it_was

  answered_still : (k : ℕ) (kept : Bool) (n : ℕ) (l : List ℕ) (a : Answer) → Kept (answered st k kept n l a)
  unfolding answered
  answered_still k kept n l silent = as_it_was
  answered_still k kept n l (says m) = either_way Kept (kept && full st) _ _ as_it_was as_it_was

  arriving_still : (k : ℕ) (kept : Bool) (b : List ℕ) → Kept (arriving st k kept b)
  unfolding arriving at_replica at_coordinator
  arriving_still k kept b =
      let n = to_of b in
      let d = deliver longest_message (st.images n) n b in
      either_way Kept (contains st.own.on n) _ _
      (either_way Kept (for_replica (kind_of b)) _ _
      (either_way Kept (eqb d.number 0) _ _ (answered_still k kept n d.image d.answer) as_it_was)
      (either_way Kept (eqb (receive_of (system st) (st.records n) n b).number 0) _ _
      (record_still n _ (receive_still (system st) (st.records n) n b)) as_it_was)) as_it_was

  delivery_still : (k : ℕ) (kept : Bool) → Kept (delivery_of st k kept)
  unfolding delivery_of
  delivery_still k kept = let b = get_or st.pool k [] in
      either_way Kept (ltb k (length st.pool)) _ _ (either_way Kept (eqb (check_of b) 0) _ _ (arriving_still k kept b) as_it_was) as_it_was

  send_still : (n to t : ℕ) → Kept (send_of st n to t)
  unfolding send_of
  send_still n to t =
      let kind = due_kind (system st) (st.records n) to t in
      let m = message_due (st.records n) n to t kind in
      let due = not (eqb kind 0) in
      either_way Kept (eqb (send_number st n to t m due) 0) (cond due (putting (encode m) st) (taken 0 st)) (refused_with (send_number st n to t m due) st)
      (either_way Kept due (putting (encode m) st) (taken 0 st) as_it_was as_it_was) as_it_was

  pub still_next : (c : Call) → is_begin c ≡ false → Kept (step st c)
  unfolding step drop_of switch_of
  still_next (begin n a) e = absurd (no_both refl e)
  still_next (open_read n x) e = hosted_still n _ (open_still (system st) (st.records n) n x 0)
  still_next (open_write n x) e = hosted_still n _ (open_still (system st) (st.records n) n x 1)
  still_next (set_value n x v) e = hosted_still n _ (set_still (system st) (st.records n) n x v)
  still_next (found n x) e = hosted_still n _ (found_still (system st) (st.records n) n x)
  still_next (reselect n live d) e = hosted_still n _ (reselect_still (system st) (st.records n) n live d)
  still_next (request_commit n) e = hosted_still n _ (request_still (system st) (st.records n) n)
  still_next (abort n) e = hosted_still n _ (abort_still (system st) (st.records n) n)
  still_next (send n to x) e = send_still n to x
  still_next (delivery k kept) e = delivery_still k kept
  still_next (drop k) e = either_way Kept (ltb k (length st.pool)) _ _ as_it_was as_it_was
  still_next (switch n up) e = either_way Kept (no_node n) _ _ as_it_was as_it_was

-- ---- what is no node
abbrev pub Spare : Station → Type 0
Spare st = (n : ℕ) → nodes ≤ n → (st.records n).phase ≡ idle_phase

-- no begin is taken there
begin_spare : (s : System) (c : Coordinator) (n : ℕ) (a : BeginWith) → nodes ≤ n → c.phase ≡ idle_phase
    → (begin_of s c n a).coordinator.phase ≡ idle_phase
unfolding begin_of begin_refusals
begin_spare s c n a h e = let q = s.nearest_read n a.live a.distances in
    step_keeps (λ (d : Coordinator). d.phase ≡ idle_phase) (begin_refusals c n a q) (mask_of q) c (begun c a (mask_of q)) tt e
    (λ k. absurd (no_both (not-false (ltb n nodes) (neither_left (no_node n) (too_wide a.live) k.0)) (le-ltb n nodes h)))

module _ (st : Station) (w : Spare st) where
  begun_spare : (n : ℕ) (a : BeginWith) → Spare (step st (begin n a)).station
  unfolding step hosted
  begun_spare n a =
      let x = begin_of (system st) (st.records n) n a in
      let P : Outcome → Type 0 = λ (r : Outcome). Spare r.station in
      either_way P (contains st.own.on n) _ _ (either_way P (eqb x.number 0) _ _
      (put_all (λ (i : ℕ) (d : Coordinator). nodes ≤ i → d.phase ≡ idle_phase) st.records n x.coordinator
      (λ h. begin_spare (system st) (st.records n) n a h (w n h)) (λ i e. w i)) w) w

  idle_still : (c : Call) → is_begin c ≡ false → Spare (step st c).station
  idle_still c e n h = (still_next st n c e).stays_idle (w n h)

  pub spare_next : (c : Call) → Spare (step st c).station
  spare_next (begin n a) = begun_spare n a
  spare_next (open_read n x) = idle_still (open_read n x) refl
  spare_next (open_write n x) = idle_still (open_write n x) refl
  spare_next (set_value n x v) = idle_still (set_value n x v) refl
  spare_next (found n x) = idle_still (found n x) refl
  spare_next (reselect n live d) = idle_still (reselect n live d) refl
  spare_next (request_commit n) = idle_still (request_commit n) refl
  spare_next (abort n) = idle_still (abort n) refl
  spare_next (send n to x) = idle_still (send n to x) refl
  spare_next (delivery k kept) = idle_still (delivery k kept) refl
  spare_next (drop k) = idle_still (drop k) refl
  spare_next (switch n up) = idle_still (switch n up) refl
