-- A delivery by its cases: the record as before, or what a message that fits makes of it. An abort too, which ends a transaction the same way.
use mathlib.Core.Path.{◌≡◌}
use mathlib.Core.Bool.{true, cond, not, ◌&&◌, ◌||◌}
use mathlib.Core.List.{List}
use mathlib.Core.Logic.{◌⊎◌, inl, inr}
use Prim.Native.Nat.{ℕ, ◌<◌}
use lib.Dec.{T, eqb, eqb→eq, ltb→lt, T_not}
use lib.ListN.{set}
use borrow.Author.Tests.{eqb-true, eqb-false}
use Rattle.numbers.specs.Sizes.{most_open}
use Rattle.mask.specs.Mask.{contains, only, joined, within}
use Rattle.mask.proofs.Tests.{and_left, and_right, T_true}
use Rattle.numbers.specs.Refusal.{first_of}
use Rattle.wire.specs.Message.{copy, vote, done, yield}
use Rattle.wire.specs.Decode.{kind_of, from_of, serial_of, stamp_of, rival_count}
use Rattle.wire.specs.Items.{entry_of, rival_of, word_of}
use Rattle.coordinator.specs.declared.Object.{Object}
use Rattle.coordinator.specs.declared.Coordinator.{Coordinator}
use Rattle.coordinator.specs.Step.{Step}
use Rattle.coordinator.specs.System.{System}
use Rattle.coordinator.specs.State.{open_phase, voting_phase, finishing_phase, nothing, committed, aborted, became_ready, finished, idle_after}
use Rattle.coordinator.specs.State.{place_of, object_at, is_open, ready, awaited}
use Rattle.coordinator.specs.Calls.{with_objects, with_phase, ended_aborted}
use Rattle.arrivals.specs.Receive.{brought, answers, with_copy, copy_fits, copy_taken, raise_from, with_yes, vote_taken, with_done, done_taken, yield_taken}
use Rattle.arrivals.specs.Receive.{delivered, receive_refusals, receive_of}
use Rattle.coordinator.proofs.Refusals.{clear}
use Rattle.clauses.proofs.Parts.{on_cond, true-T, false-T}
use Rattle.clauses.proofs.Cases.{OpenOrVoting, Endings, one_of, ended}
use Rattle.clauses_arrive.proofs.Messages.{Taken, taken_of}

-- ---- an answer that fits: a well-formed message of its kind to this node, in this phase, with the serial and timestamp, from one of these nodes
pub record Fitting (c : Coordinator) (me kind phase nodes : ℕ) (m : List ℕ) : Type 0 where
  pub taken : Taken me m
  pub its_kind : kind_of m ≡ kind
  pub in_phase : c.phase ≡ phase
  pub its_serial : serial_of m ≡ c.serial
  pub its_stamp : stamp_of m ≡ c.timestamp
  pub from_node : T (contains nodes (from_of m))

fitting : (c : Coordinator) (me kind phase nodes : ℕ) (m : List ℕ) → Taken me m → kind_of m ≡ kind → answers c phase nodes m ≡ true
    → Fitting c me kind phase nodes m
fitting c me kind phase nodes m g k e =
    let t = true-T (answers c phase nodes m) e in
    let a = and_right (eqb c.phase phase) _ t in
    let b = and_right (eqb (serial_of m) c.serial) _ a in
    record {
      taken = g;
      its_kind = k;
      in_phase = eqb→eq c.phase phase (and_left (eqb c.phase phase) _ t);
      its_serial = eqb→eq (serial_of m) c.serial (and_left (eqb (serial_of m) c.serial) _ a);
      its_stamp = eqb→eq (stamp_of m) c.timestamp (and_left (eqb (stamp_of m) c.timestamp) (contains nodes (from_of m)) b);
      from_node = and_right (eqb (stamp_of m) c.timestamp) (contains nodes (from_of m)) b;
    }

-- a copy: its object is open, in its mode, and not ready
pub record CopyFitting (s : System) (c : Coordinator) (me : ℕ) (m : List ℕ) : Type 0 where
  pub answer : Fitting c me copy open_phase c.contacted m
  pub is_open : place_of c (entry_of m 0).object < most_open
  pub its_mode : (entry_of m 0).mode ≡ (object_at c (entry_of m 0).object).mode
  pub not_ready_lem : T (ready s (object_at c (entry_of m 0).object)) → ⊥

copy_fitting : (s : System) (c : Coordinator) (me : ℕ) (m : List ℕ) → Taken me m → kind_of m ≡ copy → copy_fits s c m ≡ true → CopyFitting s c me m
unfolding copy_fits
copy_fitting s c me m g k e =
    let x = object_at c (entry_of m 0).object in
    let f = answers c open_phase c.contacted m in
    let o = is_open c (entry_of m 0).object in
    let d = eqb (entry_of m 0).mode x.mode in
    let t = true-T (f && (o && (d && not (ready s x)))) e in
    let a = and_right f (o && (d && not (ready s x))) t in
    let b = and_right o (d && not (ready s x)) a in
    record {
      answer = fitting c me copy open_phase c.contacted m g k (T_true f (and_left f (o && (d && not (ready s x))) t));
      is_open = ltb→lt (place_of c (entry_of m 0).object) most_open (and_left o (d && not (ready s x)) a);
      its_mode = eqb→eq (entry_of m 0).mode x.mode (and_left d (not (ready s x)) b);
      not_ready_lem = T_not (ready s x) (and_right d (not (ready s x)) b);
    }

-- a vote of a participant, yes or no
pub record YesFitting (c : Coordinator) (me : ℕ) (m : List ℕ) : Type 0 where
  pub answer : Fitting c me vote voting_phase c.participants m
  pub says_yes : word_of m ≡ 0 → ⊥

pub record NoFitting (c : Coordinator) (me : ℕ) (m : List ℕ) : Type 0 where
  pub answer : Fitting c me vote voting_phase c.participants m
  pub says_no : word_of m ≡ 0

-- a done of an awaited node
abbrev pub DoneFitting : Coordinator → ℕ → List ℕ → Type 0
DoneFitting c me m = Fitting c me done finishing_phase (awaited c) m

-- ---- a transaction that ends aborted: a yield that names it
pub record YieldFitting (c : Coordinator) (me : ℕ) (m : List ℕ) : Type 0 where
  pub taken : Taken me m
  pub its_kind : kind_of m ≡ yield
  pub in_phase : OpenOrVoting c
  pub its_serial : (rival_of m 0).serial ≡ c.serial

-- why a delivery aborts: a participant's no, or a yield
abbrev pub Aborts : Coordinator → ℕ → List ℕ → Type 0
Aborts c me m = NoFitting c me m ⊎ YieldFitting c me m

-- ---- a delivery
-- the copies, the votes, the rivals and the dones with this message
abbrev pub copied_object : Coordinator → List ℕ → Object
copied_object c m = with_copy (object_at c (entry_of m 0).object) (from_of m) (entry_of m 0)

abbrev pub after_copy : Coordinator → List ℕ → Coordinator
after_copy c m = with_objects c c.contacted c.count (set c.objects (place_of c (entry_of m 0).object) (copied_object c m))

abbrev pub said_yes : Coordinator → List ℕ → ℕ
said_yes c m = joined c.yes (only (from_of m))

abbrev pub named : Coordinator → List ℕ → List ℕ
named c m = raise_from m (rival_count m) 0 c.rivals

abbrev pub said_done : Coordinator → List ℕ → ℕ
said_done c m = joined c.done (only (from_of m))

-- what holds of each step that a delivery can be
pub record Deliveries (P : Step → Type 0) (s : System) (c : Coordinator) (me : ℕ) (m : List ℕ) : Type 0 where
  pub as_before : (number : ℕ) → P (record { number = number; answer = nothing; coordinator = c })
  pub copied : CopyFitting s c me m → P (brought (cond (ready s (copied_object c m)) became_ready nothing) (after_copy c m))
  pub endings : Aborts c me m → Endings (λ (d : Coordinator). P (brought aborted d)) c
  pub last_yes : YesFitting c me m → T (within c.participants (said_yes c m))
      → P (brought committed (with_phase c finishing_phase committed c.participants (said_yes c m) c.done (named c m)))
  pub one_yes : YesFitting c me m → (T (within c.participants (said_yes c m)) → ⊥)
      → P (brought nothing (with_phase c voting_phase c.outcome c.participants (said_yes c m) c.done (named c m)))
  pub last_done : DoneFitting c me m → T (within (awaited c) (said_done c m))
      → P (brought finished (idle_after c.serial c.timestamp c.outcome))
  pub one_done : DoneFitting c me m → (T (within (awaited c) (said_done c m)) → ⊥)
      → P (brought nothing (with_phase c c.phase c.outcome c.participants c.yes (said_done c m) c.rivals))

module _ (P : Step → Type 0) (s : System) (c : Coordinator) (me : ℕ) (m : List ℕ) (d : Deliveries P s c me m) where
  abbrev unfit : P (brought nothing c)
  unfit = d.as_before 0

  over : Aborts c me m → OpenOrVoting c → P (brought aborted (ended_aborted c))
  over r = ended (λ (x : Coordinator). P (brought aborted x)) c (d.endings r)

  module _ (g : Taken me m) where
    copy_case : kind_of m ≡ copy → P (copy_taken s c m)
    unfolding copy_taken
    copy_case e = on_cond P (copy_fits s c m) _ _ (λ k. d.copied (copy_fitting s c me m g e k)) (λ k. unfit)

    vote_case : kind_of m ≡ vote → P (vote_taken c m)
    unfolding vote_taken with_yes
    vote_case e =
        let b = within c.participants (said_yes c m) in
        on_cond P (answers c voting_phase c.participants m) _ _
        (λ k. let f = fitting c me vote voting_phase c.participants m g e k in
        on_cond P (eqb (word_of m) 0) _ _ (λ z. over (inl (record { answer = f; says_no = eqb-true (word_of m) 0 z })) (inr f.in_phase))
        (λ z. let y : YesFitting c me m = record { answer = f; says_yes = eqb-false (word_of m) 0 z } in
        on_cond P b _ _ (λ t. d.last_yes y (true-T b t)) (λ t. d.one_yes y (false-T b t))))
        (λ k. unfit)

    done_case : kind_of m ≡ done → P (done_taken c m)
    unfolding done_taken with_done
    done_case e =
        let b = within (awaited c) (said_done c m) in
        on_cond P (answers c finishing_phase (awaited c) m) _ _
        (λ k. let f = fitting c me done finishing_phase (awaited c) m g e k in
        on_cond P b _ _ (λ t. d.last_done f (true-T b t)) (λ t. d.one_done f (false-T b t)))
        (λ k. unfit)

    yield_case : kind_of m ≡ yield → P (yield_taken c m)
    unfolding yield_taken
    yield_case e =
        let a = eqb c.phase open_phase || eqb c.phase voting_phase in
        let n = eqb (rival_of m 0).serial c.serial in
        on_cond P (a && n) _ _
        (λ k. let t = true-T (a && n) k in
        let p = one_of c (T_true a (and_left a n t)) in
        over (inr (record { taken = g; its_kind = e; in_phase = p; its_serial = eqb→eq (rival_of m 0).serial c.serial (and_right a n t) })) p)
        (λ k. unfit)

    delivered_case : P (delivered s c m)
    unfolding delivered
    delivered_case =
        on_cond P (eqb (kind_of m) copy) _ _ (λ k. copy_case (eqb-true (kind_of m) copy k))
        (λ k. on_cond P (eqb (kind_of m) vote) _ _ (λ k. vote_case (eqb-true (kind_of m) vote k))
        (λ k. on_cond P (eqb (kind_of m) done) _ _ (λ k. done_case (eqb-true (kind_of m) done k))
        (λ k. on_cond P (eqb (kind_of m) yield) _ _ (λ k. yield_case (eqb-true (kind_of m) yield k)) (λ k. unfit))))

  pub receive_cases : P (receive_of s c me m)
  unfolding receive_of receive_refusals
  receive_cases =
      let rs = receive_refusals c me m in
      on_cond P (eqb (first_of rs) 0) _ _ (λ k. delivered_case (taken_of c me m (clear rs tt (eqb-true (first_of rs) 0 k)))) (λ k. d.as_before (first_of rs))
