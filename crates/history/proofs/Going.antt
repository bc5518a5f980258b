-- A coordinator's calls and deliveries keep everything in turn (InTurn): a transaction that goes on awaits whom it awaited, one that ends was told done
-- by everyone awaited, and the next one begins with nobody awaited.
use mathlib.Core.Path.{◌≡◌, refl, sym, ◌∙◌, subst}
use mathlib.Core.Logic.{◌≢◌, inl, inr}
use mathlib.Core.Bool.{Bool, true, false, cond}
use mathlib.Core.List.{List}
use Prim.Native.Nat.{ℕ, ◌<◌, ◌≤◌}
use native.Mathlib.Omega.{arith}
use lib.Dec.{T, eqb, ltb}
use borrow.Author.Tests.{eqb-true, ltb-true}
use Rattle.numbers.specs.Sizes.{nodes, every_node}
use Rattle.mask.specs.Mask.{contains, joined, within}
use Rattle.mask.proofs.Laws.{within_contains}
use Rattle.mask.proofs.Tests.{T_true}
use Rattle.quorum.specs.Nearest.{mask_of}
use Rattle.wire.specs.Message.{done}
use Rattle.wire.specs.Formed.{counts_ok, names_ok, direction_ok, well_formed}
use Rattle.wire.specs.Decode.{from_of, to_of, owner_of, serial_of, decode, check_of}
use Rattle.coordinator.specs.declared.Coordinator.{Coordinator}
use Rattle.coordinator.specs.declared.BeginWith.{BeginWith}
use Rattle.coordinator.specs.Step.{Step}
use Rattle.coordinator.specs.State.{idle_phase, open_phase, aborted, awaited, idle_after}
use Rattle.coordinator.specs.Calls.{begin_refusals, begun, begin_of, open_refusals, opened, open_of, set_refusals, with_new, set_of, found_of}
use Rattle.coordinator.specs.Calls.{reselect_refusals, reselected, reselect_of, request_commit_refusals, requested, request_commit_of, abort_of}
use Rattle.arrivals.specs.Receive.{receive_of}
use Rattle.coordinator.proofs.Theorems.{found_leaves}
use Rattle.replica.proofs.Delivered.{either_way}
use Rattle.clauses.proofs.Parts.{true-T}
use Rattle.clauses.proofs.Sets.{node_known, within_left, within_right}
use Rattle.clauses.proofs.Cases.{step_keeps}
use Rattle.clauses_arrive.proofs.Messages.{answer_owner, vote_owner}
use Rattle.clauses.proofs.Cases.{Endings, abort_cases}
use Rattle.clauses_arrive.proofs.Deliveries.{YesFitting, DoneFitting, said_yes, said_done, receive_cases}
use Rattle.steps.specs.Station.{Station, system}
use Rattle.protocol.proofs.Tables.{on}
use Rattle.history.proofs.Tests.{and-true, not-false}
use Rattle.history.proofs.Quiet.{no_bit, agreed_by}
use Rattle.history.proofs.Books.{Valid}
use Rattle.history.proofs.Words.{formed_of, word_known}
use Rattle.history.proofs.Moves.{Behind, Bound}
use Rattle.history.proofs.InTurn.{Timely, InTurn, Goes}

-- ---- the names in an accepted message
module _ (b : List ℕ) (ok : check_of b ≡ 0) where
  named_right : (names_ok (decode b) ≡ true) × (direction_ok (decode b) ≡ true)
  unfolding well_formed
  named_right =
      let m = decode b in
      let a = (and-true (counts_ok m.kind _ _ _ _) _ (formed_of b ok)).1 in
      let d = and-true (names_ok m) _ a in
      (d.0, (and-true (direction_ok m) _ d.1).0)

  pub nodes_named : (to_of b < nodes) × (owner_of b < nodes)
  unfolding decode
  nodes_named =
      let a = (and-true (ltb (from_of b) nodes) _ named_right.0).1 in
      let d = and-true (ltb (to_of b) nodes) _ a in
      (ltb-true (to_of b) nodes d.0, ltb-true (owner_of b) nodes (and-true (ltb (owner_of b) nodes) _ d.1).0)

-- ---- sets
pub in_within : (a b i : ℕ) → T (within a b) → contains a i ≡ true → contains b i ≡ true
in_within a b i w e = T_true (contains b i) (within_contains a b w i (true-T (contains a i) e))

wider : (x : Bool) (a b p i : ℕ) → (contains a i ≡ true → contains b i ≡ true) → contains (cond x a p) i ≡ true → contains (cond x b p) i ≡ true
wider true a b p i f e = f e
wider false a b p i f e = e

module _ (st : Station) (t : InTurn st) (v : Valid st) (n : ℕ) where
  abbrev c : Coordinator
  c = st.records n

  -- ---- how a record may change
  goes_same : Goes st t n c
  goes_same = record { rises = omega arith; still = λ i s a. inl a; yes = λ i. t.said_yes_lem i n; done = λ i. t.said_done_lem i n }

  -- the same transaction goes on, and awaits whom it awaited
  goes_on : (c' : Coordinator) → c'.serial ≡ c.serial → (c.phase ≢ idle_phase → c'.phase ≢ idle_phase)
      → ((i : ℕ) → contains (awaited c) i ≡ true → contains (awaited c') i ≡ true)
      → ((i : ℕ) → contains c'.yes i ≡ true → Bound (st.images i) n c.serial)
      → ((i : ℕ) → contains c'.done i ≡ true → Behind (st.images i) n c.serial)
      → Goes st t n c'
  goes_on c' e p a y d = record {
    rises = omega (arith, e);
    still = λ i s w. inl (record { present = e ∙ w.present; begun = p w.begun; named = a i w.named });
    yes = λ i q. subst (Bound (st.images i) n) (sym e) (y i q);
    done = λ i q. subst (Behind (st.images i) n) (sym e) (d i q);
  }

  -- it ends: everyone awaited is late
  goes_idle : (stamp result : ℕ) → ((i : ℕ) → contains (awaited c) i ≡ true → Behind (st.images i) n c.serial) → Goes st t n
      (idle_after c.serial stamp result)
  unfolding idle_after
  goes_idle stamp result d = record {
    rises = omega arith;
    still = λ i s w. inr (subst (Behind (st.images i) n) w.present (d i w.named));
    yes = λ i q. absurd (no_bit i q);
    done = λ i q. absurd (no_bit i q);
  }

  -- the next one begins
  goes_next : c.phase ≡ idle_phase → (w : BeginWith) (q : ℕ) → Goes st t n (begun c w q)
  unfolding begun
  goes_next e w q = record {
    rises = omega arith;
    still = λ i s a. absurd (a.begun e);
    yes = λ i q. absurd (no_bit i q);
    done = λ i q. absurd (no_bit i q);
  }

  -- ---- the host's calls
  pub begin_goes : (w : BeginWith) → Goes st t n (begin_of (system st) c n w).coordinator
  unfolding begin_of begin_refusals
  begin_goes w =
      let chosen = (system st).nearest_read n w.live w.distances in
      step_keeps (Goes st t n) (begin_refusals c n w chosen) (mask_of chosen) c (begun c w (mask_of chosen)) tt goes_same
      (λ k. goes_next (eqb-true c.phase idle_phase (not-false _ k.1.0)) w (mask_of chosen))

  pub open_goes : (object mode : ℕ) → Goes st t n (open_of c n object mode).coordinator
  unfolding open_of open_refusals opened
  open_goes object mode = step_keeps (Goes st t n) (open_refusals c n object) 0 c (opened c object mode) tt goes_same
      (λ k. goes_on (opened c object mode) refl (λ p. p)
      (λ i. wider (eqb c.participants 0) c.contacted (joined c.contacted c.quorum) c.participants i
      (in_within c.contacted (joined c.contacted c.quorum) i (within_left c.contacted c.quorum)))
      (λ i. t.said_yes_lem i n) (λ i. t.said_done_lem i n))

  pub set_goes : (object value : ℕ) → Goes st t n (set_of c n object value).coordinator
  unfolding set_of set_refusals with_new
  set_goes object value = step_keeps (Goes st t n) (set_refusals c n object) 0 c (with_new c object value) tt goes_same
      (λ k. goes_on (with_new c object value) refl (λ p. p) (λ i e. e) (λ i. t.said_yes_lem i n) (λ i. t.said_done_lem i n))

  pub found_goes : (object : ℕ) → Goes st t n (found_of (system st) c n object).coordinator
  found_goes object = subst (Goes st t n) (sym (found_leaves (system st) c n object)) goes_same

  pub reselect_goes : (live : ℕ) (distances : List ℕ) → Goes st t n (reselect_of (system st) c n live distances).coordinator
  unfolding reselect_of reselect_refusals reselected
  reselect_goes live distances =
      let chosen = (system st).nearest_read n live distances in
      let quorum = mask_of chosen in
      step_keeps (Goes st t n) (reselect_refusals c n live chosen) quorum c (reselected c live distances quorum) tt goes_same
      (λ k. goes_on (reselected c live distances quorum) refl (λ p. p)
      (λ i. wider (eqb c.participants 0) c.contacted (cond (eqb c.count 0) c.contacted (joined c.contacted quorum)) c.participants i
      (λ e. either_way (λ (m : ℕ). contains m i ≡ true) (eqb c.count 0) c.contacted (joined c.contacted quorum) e
      (in_within c.contacted (joined c.contacted quorum) i (within_left c.contacted quorum) e)))
      (λ i. t.said_yes_lem i n) (λ i. t.said_done_lem i n))

  -- the participants have everyone contacted
  pub request_goes : Goes st t n (request_commit_of (system st) c n).coordinator
  unfolding request_commit_of request_commit_refusals requested
  request_goes =
      let chosen = (system st).nearest_write n c.live c.distances in
      let party = joined (mask_of chosen) c.contacted in
      step_keeps (Goes st t n) (request_commit_refusals (system st) c n chosen) party c (requested c party) tt goes_same
      (λ k.
      let p = eqb-true c.phase open_phase (not-false (eqb c.phase open_phase) k.1.0) in
      let none = (v.records n).party.not_asked (omega (arith, p)) in
      goes_on (requested c party) refl (λ q e. let z : ⊥ = omega (arith, e) in z)
      (λ i e. let d : contains c.contacted i ≡ true = subst (λ (m : ℕ). contains (cond (eqb m 0) c.contacted m) i ≡ true) none e in
      either_way (λ (m : ℕ). contains m i ≡ true) (eqb party 0) c.contacted party d
      (in_within c.contacted party i (within_right (mask_of chosen) c.contacted) d))
      (λ i. t.said_yes_lem i n) (λ i. t.said_done_lem i n))

  endings : Endings (Goes st t n) c
  endings = record {
    gone = λ u e. goes_idle c.timestamp aborted (λ i q. absurd (no_bit i (subst (λ (m : ℕ). contains m i ≡ true) e q)));
    aborting = λ u e. goes_on _ refl (λ p q. let z : ⊥ = omega (arith, q) in z) (λ i q. q) (λ i. t.said_yes_lem i n) (λ i. t.said_done_lem i n);
  }

  pub abort_goes : Goes st t n (abort_of c n).coordinator
  abort_goes = abort_cases (Goes st t n) c n goes_same endings

  -- ---- a waiting message delivered
  module _ (b : List ℕ) (w : Timely st.images st.records b) where
    -- what it says of its sender, of the present transaction
    of_present : (P : ℕ → ℕ → Type 0) → owner_of b ≡ n → serial_of b ≡ c.serial → P (owner_of b) (serial_of b) → P n c.serial
    of_present P e f p = subst (λ (s : ℕ). P n s) f (subst (λ (o : ℕ). P o (serial_of b)) e p)

    -- one yes more
    yes_known : (f : YesFitting c n b) (i : ℕ) → contains (said_yes c b) i ≡ true → Bound (st.images i) n c.serial
    yes_known f i e =
        let g = f.answer in
        let small = node_known c.participants (from_of b) (v.records n).party.participants_known g.from_node in
        let one = on (word_known b g.taken.checked g.its_kind) (λ q. absurd (f.says_yes q)) (λ q. w.a_yes g.its_kind q) in
        agreed_by c.yes i (from_of b) (omega (arith, small)) e (t.said_yes_lem i n)
        (λ q. subst (λ (j : ℕ). Bound (st.images j) n c.serial) (sym q)
        (of_present (Bound (st.images (from_of b))) (vote_owner n b g.taken g.its_kind) g.its_serial one))

    -- one done more
    awaited_known : awaited c ≤ every_node
    awaited_known = either_way (λ (m : ℕ). m ≤ every_node) (eqb c.participants 0) c.contacted c.participants (v.records n).nodes.contacted_known
        (v.records n).party.participants_known

    done_known : (f : DoneFitting c n b) (i : ℕ) → contains (said_done c b) i ≡ true → Behind (st.images i) n c.serial
    done_known f i e =
        let small = node_known (awaited c) (from_of b) awaited_known f.from_node in
        agreed_by c.done i (from_of b) (omega (arith, small)) e (t.said_done_lem i n)
        (λ q. subst (λ (j : ℕ). Behind (st.images j) n c.serial) (sym q)
        (of_present (Behind (st.images (from_of b))) (answer_owner n b f.taken done refl f.its_kind) f.its_serial (w.a_done_lem f.its_kind)))

    pub receive_goes : Goes st t n (receive_of (system st) c n b).coordinator
    receive_goes = receive_cases (λ (s : Step). Goes st t n s.coordinator) (system st) c n b (record {
      as_before = λ number. goes_same;
      copied = λ f. goes_on _ refl (λ p. p) (λ i e. e) (λ i. t.said_yes_lem i n) (λ i. t.said_done_lem i n);
      endings = λ r. endings;
      last_yes = λ f z. goes_on _ refl (λ p q. let y : ⊥ = omega (arith, q) in y) (λ i e. e) (yes_known f) (λ i. t.said_done_lem i n);
      one_yes = λ f z. goes_on _ refl (λ p q. let y : ⊥ = omega (arith, q) in y) (λ i e. e) (yes_known f) (λ i. t.said_done_lem i n);
      last_done = λ f z. goes_idle c.timestamp c.outcome (λ i e. done_known f i (in_within (awaited c) (said_done c b) i z e));
      one_done = λ f z. goes_on _ refl (λ p. p) (λ i e. e) (λ i. t.said_yes_lem i n) (done_known f);
    })
