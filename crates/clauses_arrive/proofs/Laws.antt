-- What the cases of a delivery imply: when a transaction commits, why it aborts, when it is over, and that no serial changes.
use mathlib.Core.Path.{◌≡◌, refl}
use mathlib.Core.List.{List}
use mathlib.Core.Logic.{◌⊎◌, inl, inr}
use Prim.Native.Nat.{ℕ}
use native.Mathlib.Omega.{arith}
use lib.Dec.{T}
use borrow.Author.Tests.{eq-eqb, ne_eqb, lt-ltb}
use Rattle.numbers.specs.Sizes.{nodes}
use Rattle.mask.specs.Mask.{contains, within}
use Rattle.mask.proofs.Tests.{T_true}
use Rattle.wire.specs.Decode.{from_of, to_of, serial_of, stamp_of}
use Rattle.wire.specs.Items.{word_of}
use Rattle.coordinator.specs.declared.Coordinator.{Coordinator}
use Rattle.coordinator.specs.Step.{Step}
use Rattle.coordinator.specs.System.{System}
use Rattle.coordinator.specs.State.{idle_phase, voting_phase, committed, aborted, became_ready, nothing, ready, awaited}
use Rattle.arrivals.specs.Receive.{with_yes, vote_taken, delivered, receive_refusals, receive_of}
use Rattle.clauses.proofs.Parts.{on_cond}
use Rattle.clauses_arrive.proofs.Deliveries.{DoneFitting, YesFitting, Aborts, copied_object, said_yes, said_done, receive_cases}
use Rattle.clauses.proofs.Laws.{idle_serial, endings_serial}

-- ---- a commit needs a yes from every participant, the message's sender the last of them
pub record Commits (c : Coordinator) (me : ℕ) (m : List ℕ) : Type 0 where
  pub a_yes : YesFitting c me m
  pub everyone : T (within c.participants (said_yes c m))

pub commit_needs_every_yes : (s : System) (c : Coordinator) (me : ℕ) (m : List ℕ) → (receive_of s c me m).answer ≡ committed → Commits c me m
commit_needs_every_yes s c me m =
    receive_cases (λ (x : Step). x.answer ≡ committed → Commits c me m) s c me m
    (record {
      as_before = λ n e. absurd (omega arith);
      copied = λ f. on_cond (λ (a : ℕ). a ≡ committed → Commits c me m) (ready s (copied_object c m)) became_ready nothing (λ k e. absurd (omega arith))
          (λ k e. absurd (omega arith));
      endings = λ r. record { gone = λ a b e. absurd (omega arith); aborting = λ a b e. absurd (omega arith) };
      last_yes = λ f t e. record { a_yes = f; everyone = t };
      one_yes = λ f t e. absurd (omega arith);
      last_done = λ f t e. absurd (omega arith);
      one_done = λ f t e. absurd (omega arith);
    })

-- and that is enough
pub every_yes_commits : (s : System) (c : Coordinator) (me : ℕ) (m : List ℕ) → Commits c me m → (receive_of s c me m).answer ≡ committed
unfolding receive_of receive_refusals delivered vote_taken with_yes
every_yes_commits s c me m h =
    let f = h.a_yes.answer in
    simp (
      f.taken.checked,
      lt-ltb me nodes f.taken.a_node,
      eq-eqb (to_of m) me f.taken.to_me,
      f.its_kind,
      eq-eqb c.phase voting_phase f.in_phase,
      eq-eqb (serial_of m) c.serial f.its_serial,
      eq-eqb (stamp_of m) c.timestamp f.its_stamp,
      T_true (contains c.participants (from_of m)) f.from_node,
      ne_eqb (word_of m) 0 h.a_yes.says_yes,
      T_true (within c.participants (said_yes c m)) h.everyone,
    )

-- a delivery aborts only by a participant's no, or a yield that names the transaction
pub abort_needs_cause : (s : System) (c : Coordinator) (me : ℕ) (m : List ℕ) → (receive_of s c me m).answer ≡ aborted → Aborts c me m
abort_needs_cause s c me m =
    receive_cases (λ (x : Step). x.answer ≡ aborted → Aborts c me m) s c me m
    (record {
      as_before = λ n e. absurd (omega arith);
      copied = λ f. on_cond (λ (a : ℕ). a ≡ aborted → Aborts c me m) (ready s (copied_object c m)) became_ready nothing (λ k e. absurd (omega arith))
          (λ k e. absurd (omega arith));
      endings = λ r. record { gone = λ a b e. r; aborting = λ a b e. r };
      last_yes = λ f t e. absurd (omega arith);
      one_yes = λ f t e. absurd (omega arith);
      last_done = λ f t e. absurd (omega arith);
      one_done = λ f t e. absurd (omega arith);
    })

-- the done that was awaited last
pub record LastDone (c : Coordinator) (me : ℕ) (m : List ℕ) : Type 0 where
  pub a_done_lem : DoneFitting c me m
  pub everyone : T (within (awaited c) (said_done c m))

module _ (s : System) (c : Coordinator) (me : ℕ) (busy : c.phase ≡ idle_phase → ⊥) where
  pub receive_over : (m : List ℕ) → (receive_of s c me m).coordinator.phase ≡ idle_phase → LastDone c me m ⊎ (awaited c ≡ 0)
  receive_over m =
      receive_cases (λ (x : Step). x.coordinator.phase ≡ idle_phase → LastDone c me m ⊎ (awaited c ≡ 0)) s c me m
      (record {
        as_before = λ n e. absurd (busy e);
        copied = λ f e. absurd (busy e);
        endings = λ r. record { gone = λ a b e. inr b; aborting = λ a b e. absurd (omega arith) };
        last_yes = λ f t e. absurd (omega arith);
        one_yes = λ f t e. absurd (omega arith);
        last_done = λ f t e. inl (record { a_done_lem = f; everyone = t });
        one_done = λ f t e. absurd (busy e);
      })

-- ---- serials stay
module _ (s : System) (c : Coordinator) (me : ℕ) where
  abbrev Same : Coordinator → Type 0
  Same d = d.serial ≡ c.serial

  pub receive_serial : (m : List ℕ) → Same (receive_of s c me m).coordinator
  receive_serial m =
      receive_cases (λ (x : Step). Same x.coordinator) s c me m
      (record {
        as_before = λ n. refl;
        copied = λ f. refl;
        endings = λ r. endings_serial s c me;
        last_yes = λ f t. refl;
        one_yes = λ f t. refl;
        last_done = λ f t. idle_serial s c me c.outcome;
        one_done = λ f t. refl;
      })
