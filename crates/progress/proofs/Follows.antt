-- How an owner's record follows what it was: the same transaction goes on, and what is open or voting was so before; or, after an idle record, the next
-- one begins. By the cases of the host's calls and of the messages that a coordinator takes.
use mathlib.Core.Path.{◌≡◌, refl, sym, subst}
use mathlib.Core.Logic.{◌⊎◌, inl, inr}
use mathlib.Core.List.{List}
use Prim.Native.Nat.{ℕ, ◌<◌}
use native.Mathlib.Omega.{arith}
use lib.Dec.{eqb}
use borrow.Author.Tests.{eqb-true}
use Rattle.mask.specs.Mask.{joined}
use Rattle.quorum.specs.Nearest.{mask_of}
use Rattle.coordinator.specs.declared.Coordinator.{Coordinator}
use Rattle.coordinator.specs.declared.BeginWith.{BeginWith}
use Rattle.coordinator.specs.Step.{Step}
use Rattle.coordinator.specs.System.{System}
use Rattle.coordinator.specs.State.{idle_phase, open_phase, idle_after}
use Rattle.coordinator.specs.Calls.{begin_refusals, begun, begin_of, open_refusals, opened, open_of, set_refusals, with_new, set_of, found_of}
use Rattle.coordinator.specs.Calls.{reselect_refusals, reselected, reselect_of, request_commit_refusals, requested, request_commit_of, abort_of}
use Rattle.coordinator.proofs.Theorems.{found_leaves}
use Rattle.arrivals.specs.Receive.{receive_of}
use Rattle.clauses.proofs.Cases.{OpenOrVoting, Endings, step_keeps, abort_cases}
use Rattle.clauses_arrive.proofs.Deliveries.{receive_cases}
use Rattle.protocol.proofs.Tables.{on}
use Rattle.history.proofs.Tests.{not-false}

-- the same transaction goes on
pub record GoesOn (c d : Coordinator) : Type 0 where
  pub serial_as : d.serial ≡ c.serial
  pub timestamp_as : d.timestamp ≡ c.timestamp
  pub open_before : d.phase ≡ open_phase → c.phase ≡ open_phase
  pub undecided_before : OpenOrVoting d → OpenOrVoting c

abbrev pub Follows : Coordinator → Coordinator → Type 0
Follows c d = GoesOn c d ⊎ ((c.phase ≡ idle_phase) × (c.serial < d.serial))

module _ (c : Coordinator) where
  -- in the same phase; decided
  same_phase : (d : Coordinator) → d.serial ≡ c.serial → d.timestamp ≡ c.timestamp → d.phase ≡ c.phase → Follows c d
  same_phase d s t e = inl (record {
    serial_as = s;
    timestamp_as = t;
    open_before = subst (λ (k : ℕ). k ≡ open_phase) e;
    undecided_before = subst (λ (k : ℕ). (k ≡ open_phase) ⊎ (k ≡ 2)) e;
  })

  decided : (d : Coordinator) → d.serial ≡ c.serial → d.timestamp ≡ c.timestamp → (OpenOrVoting d → ⊥) → Follows c d
  decided d s t q =
      inl (record { serial_as = s; timestamp_as = t; open_before = λ e. absurd (q (inl e)); undecided_before = λ p. absurd (q p) })

  pub as_it_was : Follows c c
  as_it_was = same_phase c refl refl refl

  idle_after_lem : (outcome : ℕ) → Follows c (idle_after c.serial c.timestamp outcome)
  unfolding idle_after
  idle_after_lem outcome = decided _ refl refl (λ p. on p (λ e. let z : ⊥ = omega (arith, e) in z) (λ e. let z : ⊥ = omega (arith, e) in z))

  ends : Endings (Follows c) c
  ends = record {
    gone = λ a b. idle_after_lem 2;
    aborting = λ a b. decided _ refl refl (λ p. on p (λ e. let z : ⊥ = omega (arith, e) in z) (λ e. let z : ⊥ = omega (arith, e) in z));
  }

  module _ (s : System) (n : ℕ) where
    pub begin_follows : (a : BeginWith) → Follows c (begin_of s c n a).coordinator
    unfolding begin_of begin_refusals begun
    begin_follows a = let q = s.nearest_read n a.live a.distances in
        step_keeps (Follows c) (begin_refusals c n a q) (mask_of q) c (begun c a (mask_of q)) tt as_it_was
        (λ k. inr (eqb-true c.phase idle_phase (not-false _ k.1.0), omega arith))

    pub open_follows : (t mode : ℕ) → Follows c (open_of c n t mode).coordinator
    unfolding open_of open_refusals opened
    open_follows t mode = step_keeps (Follows c) (open_refusals c n t) 0 c (opened c t mode) tt as_it_was (λ k. same_phase _ refl refl refl)

    pub set_follows : (t v : ℕ) → Follows c (set_of c n t v).coordinator
    unfolding set_of set_refusals with_new
    set_follows t v = step_keeps (Follows c) (set_refusals c n t) 0 c (with_new c t v) tt as_it_was (λ k. same_phase _ refl refl refl)

    pub found_follows : (t : ℕ) → Follows c (found_of s c n t).coordinator
    found_follows t = subst (Follows c) (sym (found_leaves s c n t)) as_it_was

    pub reselect_follows : (live : ℕ) (distances : List ℕ) → Follows c (reselect_of s c n live distances).coordinator
    unfolding reselect_of reselect_refusals reselected
    reselect_follows live distances = let q = s.nearest_read n live distances in
        step_keeps (Follows c) (reselect_refusals c n live q) (mask_of q) c (reselected c live distances (mask_of q)) tt as_it_was
        (λ k. same_phase _ refl refl refl)

    pub request_follows : Follows c (request_commit_of s c n).coordinator
    unfolding request_commit_of request_commit_refusals requested
    request_follows =
        let q = s.nearest_write n c.live c.distances in
        let party = joined (mask_of q) c.contacted in
        step_keeps (Follows c) (request_commit_refusals s c n q) party c (requested c party) tt as_it_was
        (λ k.
        let p = eqb-true c.phase open_phase (not-false (eqb c.phase open_phase) k.1.0) in
        inl (record { serial_as = refl; timestamp_as = refl; open_before = λ e. p; undecided_before = λ e. inl p }))

    pub abort_follows : Follows c (abort_of c n).coordinator
    abort_follows = abort_cases (Follows c) c n as_it_was ends

    pub receive_follows : (b : List ℕ) → Follows c (receive_of s c n b).coordinator
    receive_follows b = receive_cases (λ (x : Step). Follows c x.coordinator) s c n b (record {
      as_before = λ number. as_it_was;
      copied = λ f. same_phase _ refl refl refl;
      endings = λ r. ends;
      last_yes = λ f t. decided _ refl refl (λ p. on p (λ e. let z : ⊥ = omega (arith, e) in z) (λ e. let z : ⊥ = omega (arith, e) in z));
      one_yes = λ f t. same_phase _ refl refl (sym f.answer.in_phase);
      last_done = λ f t. idle_after_lem c.outcome;
      one_done = λ f t. same_phase _ refl refl refl;
    })
