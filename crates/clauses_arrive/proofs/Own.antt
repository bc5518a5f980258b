-- A transaction is no rival of its own: at node me the place of me among the rivals stays 0, since a vote's owner is me and no rival is the owner.
use mathlib.Core.Path.{◌≡◌, refl, sym, ◌∙◌}
use mathlib.Core.List.{List}
use Prim.Native.Nat.{ℕ, zero, suc, ◌+◌, ◌<◌, ◌≤◌}
use native.Mathlib.Omega.{arith}
use lib.ListN.{get_or, replicate}
use lib.Seq.{get_or-set_other}
use Rattle.numbers.specs.Sizes.{nodes}
use Rattle.mask.specs.Mask.{joined}
use Rattle.quorum.specs.Nearest.{mask_of}
use Rattle.wire.specs.Decode.{rival_count}
use Rattle.wire.specs.Items.{rival_of}
use Rattle.coordinator.specs.declared.Coordinator.{Coordinator}
use Rattle.coordinator.specs.declared.BeginWith.{BeginWith}
use Rattle.coordinator.specs.Step.{Step}
use Rattle.coordinator.specs.System.{System}
use Rattle.coordinator.specs.State.{aborted, idle_after, blank_record}
use Rattle.coordinator.specs.Calls.{begin_refusals, begun, begin_of, open_refusals, opened, open_of, set_refusals, with_new, set_of, reselect_refusals}
use Rattle.coordinator.specs.Calls.{reselected, reselect_of, request_commit_refusals, requested, request_commit_of, abort_of}
use Rattle.arrivals.specs.Receive.{raise, raise_from, receive_of}
use Rattle.clauses.proofs.Cases.{step_keeps, Endings, abort_cases}
use Rattle.clauses_arrive.proofs.Messages.{rival_other}
use Rattle.clauses_arrive.proofs.Deliveries.{YesFitting, named, receive_cases}

-- node me is not named among the rivals
abbrev pub OwnFree : ℕ → Coordinator → Type 0
OwnFree me c = get_or c.rivals me 0 ≡ 0

none_named : (n i : ℕ) → ◌≡◌ {A = ℕ} (get_or (replicate n 0) i 0) 0
none_named zero i = refl
none_named (suc n) zero = refl
none_named (suc n) (suc i) = none_named n i

idle_free : (me serial timestamp outcome : ℕ) → OwnFree me (idle_after serial timestamp outcome)
unfolding idle_after
idle_free me serial timestamp outcome = none_named nodes me

pub blank_own_lem : (me : ℕ) → OwnFree me blank_record
blank_own_lem me = idle_free me 0 0 0

-- the rivals of a message that names others
raised_other : (me : ℕ) (m : List ℕ) (n i : ℕ) (rivals : List ℕ) → ((j : ℕ) → i ≤ j → j < i + n → (rival_of m j).owner ≡ me → ⊥)
    → get_or (raise_from m n i rivals) me 0 ≡ get_or rivals me 0
unfolding raise_from
raised_other me m zero i rivals f = refl
raised_other me m (suc n) i rivals f =
    raised_other me m n (i + 1) (raise rivals (rival_of m i)) (λ j a b. f j (omega arith) (omega arith))
    ∙ get_or-set_other rivals (rival_of m i).owner me _ 0 (λ e. f i (omega arith) (omega arith) (sym e))

module _ (s : System) (me : ℕ) (c : Coordinator) (p : OwnFree me c) where
  pub begin_own : (w : BeginWith) → OwnFree me (begin_of s c me w).coordinator
  unfolding begin_of begin_refusals begun
  begin_own w =
      let chosen = s.nearest_read me w.live w.distances in
      step_keeps (OwnFree me) (begin_refusals c me w chosen) (mask_of chosen) c (begun c w (mask_of chosen)) tt p (λ k. none_named nodes me)

  pub open_own : (object mode : ℕ) → OwnFree me (open_of c me object mode).coordinator
  unfolding open_of open_refusals opened
  open_own object mode = step_keeps (OwnFree me) (open_refusals c me object) 0 c (opened c object mode) tt p (λ k. p)

  pub set_own : (object value : ℕ) → OwnFree me (set_of c me object value).coordinator
  unfolding set_of set_refusals with_new
  set_own object value = step_keeps (OwnFree me) (set_refusals c me object) 0 c (with_new c object value) tt p (λ k. p)

  pub reselect_own : (live : ℕ) (distances : List ℕ) → OwnFree me (reselect_of s c me live distances).coordinator
  unfolding reselect_of reselect_refusals reselected
  reselect_own live distances =
      let chosen = s.nearest_read me live distances in
      step_keeps (OwnFree me) (reselect_refusals c me live chosen) (mask_of chosen) c (reselected c live distances (mask_of chosen)) tt p (λ k. p)

  pub request_own : OwnFree me (request_commit_of s c me).coordinator
  unfolding request_commit_of request_commit_refusals requested
  request_own =
      let chosen = s.nearest_write me c.live c.distances in
      let all = joined (mask_of chosen) c.contacted in
      step_keeps (OwnFree me) (request_commit_refusals s c me chosen) all c (requested c all) tt p (λ k. p)

  endings_own : Endings (OwnFree me) c
  endings_own = record { gone = λ a e. idle_free me c.serial c.timestamp aborted; aborting = λ a e. p }

  pub abort_own : OwnFree me (abort_of c me).coordinator
  abort_own = abort_cases (OwnFree me) c me p endings_own

  pub receive_own : (m : List ℕ) → OwnFree me (receive_of s c me m).coordinator
  receive_own m = receive_cases (λ (x : Step). OwnFree me x.coordinator) s c me m (record {
    as_before = λ n. p;
    copied = λ f. p;
    endings = λ r. endings_own;
    last_yes = λ f t. named_other f;
    one_yes = λ f t. named_other f;
    last_done = λ f t. idle_free me c.serial c.timestamp c.outcome;
    one_done = λ f t. p;
  })
    where
      named_other : YesFitting c me m → get_or (named c m) me 0 ≡ 0
      named_other f =
          raised_other me m (rival_count m) 0 c.rivals (λ j a b. rival_other me m f.answer.taken f.answer.its_kind j (omega arith)) ∙ p
