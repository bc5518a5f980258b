-- A message delivered at a coordinator, with what the events tell. By the cases of crate clauses: each step that a delivery can be, with its reason.
use mathlib.Core.Path.{◌≡◌, refl, sym, ◌∙◌, ap, subst}
use mathlib.Core.Bool.{Bool, true, false, cond}
use mathlib.Core.List.{List, [], ◌∷◌}
use mathlib.Core.Option.{none}
use Prim.Native.Nat.{ℕ, zero, suc, ◌<◌}
use native.Mathlib.Omega.{arith}
use lib.Dec.{T, eqb}
use lib.ListN.{length, get_or}
use borrow.Author.Tests.{eq-eqb, ne_eqb, lt-ltb}
use Rattle.numbers.specs.Sizes.{most_open}
use Rattle.mask.specs.Mask.{within}
use Rattle.mask.proofs.Tests.{T_true}
use Rattle.wire.specs.Message.{copy}
use Rattle.wire.specs.Decode.{from_of}
use Rattle.wire.specs.Items.{entry_of}
use Rattle.coordinator.specs.declared.Coordinator.{Coordinator}
use Rattle.coordinator.specs.Step.{Step}
use Rattle.coordinator.specs.State.{voting_phase, finishing_phase, place_of, ready, awaited, idle_after}
use Rattle.coordinator.specs.Calls.{with_phase, ended_aborted}
use Rattle.arrivals.specs.Receive.{brought}
use Rattle.clauses.proofs.Facts.{Meets}
use Rattle.clauses.proofs.Parts.{T_false}
use Rattle.clauses.proofs.Sets.{node_known}
use Rattle.clauses_arrive.proofs.Messages.{answer_owner, vote_owner}
use Rattle.clauses_arrive.proofs.Deliver.{receive_keeps}
use Rattle.clauses.proofs.Cases.{OpenOrVoting}
use Rattle.clauses_arrive.proofs.Deliveries.{CopyFitting, YesFitting, DoneFitting, copied_object, after_copy, said_yes, named, said_done}
use Rattle.clauses_arrive.proofs.Deliveries.{receive_cases}
use Rattle.steps.specs.Station.{Station, system, with_record, without}
use Rattle.steps.specs.Step.{delivery, Outcome, refused_with, taken, taken_out, at_coordinator}
use Rattle.protocol.specs.Table.{In}
use Rattle.protocol.specs.State.{Tx, tx_path}
use Rattle.protocol.specs.Proof.Tables.{clash}
use Rattle.protocol.proofs.Tables.{on}
use Rattle.history.specs.Ledger.{Ledger, tx_of, with_put, with_delivered, noted, note}
use Rattle.history.proofs.Sim.{tx, Tells, waits_tells}
use Rattle.history.proofs.Quiet.{yes_owner, done_owner}
use Rattle.history.proofs.Books.{Past, More, World, changed}
use Rattle.history.proofs.Host.{SameTold, objects_still, same_world, copy_world}
use Rattle.history.proofs.Turns.{abort_world, commit_world, idle_world}
use Rattle.history.proofs.Words.{word_known}
use Rattle.history.proofs.Arrive.{in_left, in_place}
use Rattle.history.proofs.Calls.{Next, refused_next}

module _ (st : Station) (L : Ledger) (F : Past) (w : World st L F) (k : ℕ) (kept : Bool) (n : ℕ) (b : List ℕ) (is_b : b ≡ get_or st.pool k [])
    (waits : k < length st.pool) where
  abbrev c : Coordinator
  c = st.records n

  abbrev pool : List (List ℕ)
  pool = cond kept st.pool (without k st.pool)

  sub : (y : List ℕ) → In y pool → In y st.pool
  sub y i = in_left kept k st.pool y i

  in_pool : In b st.pool
  in_pool = subst (λ (y : List ℕ). In y st.pool) (sym is_b) (in_place st.pool k [] waits)

  -- what the events tell of it
  abbrev told : ℕ → Ledger
  told answer = with_delivered (with_put L pool none) b answer none

  same_told : (answer : ℕ) → SameTold L (told answer)
  same_told answer = record { serials = refl; modes = refl; news = refl; parties = refl }

  as_told : (answer : ℕ) → noted L (delivery k kept) answer none ≡ told answer
  unfolding noted
  as_told answer = ap (λ (l : List (List ℕ)). with_delivered (with_put L (cond kept l (without k l)) none) (get_or l k []) answer none) w.books.pool_as
      ∙ ap (λ (y : List ℕ). with_delivered (with_put L pool none) y answer none) (sym is_b)

  abbrev out : Step → Outcome
  out s = cond (eqb s.number 0) (taken s.answer (with_record (taken_out st k kept) n s.coordinator)) (refused_with s.number st)

  abbrev P : Step → Type 0
  P s = Meets (system st) s.coordinator → Next st L F w (delivery k kept) (out s)

  -- a step that is taken
  go : (answer : ℕ) (d : Coordinator) → World (changed st n d pool) (told answer) (More F (changed st n d pool)) → Next st L F w (delivery k kept)
      (out (brought answer d))
  unfolding note
  go answer d x = subst (λ (L' : Ledger). World (changed st n d pool) L' (More F (changed st n d pool))) (sym (as_told answer)) x

  unchanged : (number : ℕ) → P (record { number = number; answer = 0; coordinator = c })
  unchanged zero m = go 0 c (same_world st L F w n c pool (told 0) (objects_still c) (same_told 0) (w.sim.owners n) m sub refl refl refl refl refl)
  unchanged (suc number) m =
      subst (λ (t : Bool). Next st L F w (delivery k kept) (cond t (taken 0 (with_record (taken_out st k kept) n c)) (refused_with (suc number) st)))
      (sym (ne_eqb (suc number) 0 (λ e. let z : ⊥ = omega arith in z)))
      (refused_next st L F w (delivery k kept) (suc number) (λ e. let z : ⊥ = omega arith in z))

  -- a copy
  no_commit : (r : Bool) → cond (eqb (cond r 3 0) 1) (tx_of b ∷ L.committed) L.committed ≡ L.committed
  no_commit true = refl
  no_commit false = refl

  copied_case : CopyFitting (system st) c n b → P (brought (cond (ready (system st) (copied_object c b)) 3 0) (after_copy c b))
  copied_case f m =
      let answer : ℕ = cond (ready (system st) (copied_object c b)) 3 0 in
      let p = (w.sim.owners n).while_open f.answer.in_phase in
      let names : tx_of b ≡ tx n c.serial =
      tx_path (tx_of b) (tx n c.serial) (answer_owner n b f.answer.taken copy refl f.answer.its_kind) f.answer.its_serial in
      let t = waits_tells w.state b (tx n c.serial) names (λ e. clash (cc)) (λ e. clash (cc)) (w.sim.waits b in_pool) in
      go answer (after_copy c b)
      (copy_world st L F w n f.answer.in_phase (from_of b) (entry_of b 0) (lt-ltb (place_of c (entry_of b 0).object) most_open f.is_open)
      (T_false _ f.not_ready_lem) (t.a_copy f.answer.its_kind) pool (told answer) (same_told answer) m sub refl refl
      (no_commit (ready (system st) (copied_object c b))) refl refl)

  -- an abort
  ended_idle : awaited c ≡ 0 → ended_aborted c ≡ idle_after c.serial c.timestamp 2
  unfolding ended_aborted
  ended_idle e = ap (λ (t : Bool). cond t (idle_after c.serial c.timestamp 2)
      (with_phase c finishing_phase 2 c.participants c.yes c.done c.rivals)) (eq-eqb (awaited c) 0 e)

  ended_on : (awaited c ≡ 0 → ⊥) → ended_aborted c ≡ with_phase c finishing_phase 2 c.participants c.yes c.done c.rivals
  unfolding ended_aborted
  ended_on e = ap (λ (t : Bool). cond t (idle_after c.serial c.timestamp 2)
      (with_phase c finishing_phase 2 c.participants c.yes c.done c.rivals)) (ne_eqb (awaited c) 0 e)

  aborted_case : (d : Coordinator) → ended_aborted c ≡ d → OpenOrVoting c → P (brought 2 d)
  aborted_case d e u m = go 2 d (subst (λ (x : Coordinator). World (changed st n x pool) (told 2) (More F (changed st n x pool))) e
      (abort_world st L F w n u pool (told 2) (same_told 2) (subst (Meets (system st)) (sym e) m) sub refl refl refl refl refl))

  -- votes
  module _ (f : YesFitting c n b) where
    is_voting : c.phase ≡ voting_phase
    is_voting = f.answer.in_phase

    names_it : tx_of b ≡ tx n c.serial
    names_it = tx_path (tx_of b) (tx n c.serial) (vote_owner n b f.answer.taken f.answer.its_kind) f.answer.its_serial

    still_told : Tells w.state.history w.state.votes w.state.sent b
    still_told = let p = (w.sim.owners n).while_voting is_voting in
        waits_tells w.state b (tx n c.serial) names_it (λ e. clash (cc)) (λ e. clash (cc)) (w.sim.waits b in_pool)

    was_yes : w.state.votes.yes (from_of b) (tx n c.serial) ≡ true
    was_yes = on (word_known b f.answer.taken.checked f.answer.its_kind) (λ q. absurd (f.says_yes q))
        (λ q. subst (λ (x : Tx). w.state.votes.yes (from_of b) x ≡ true) names_it (still_told.a_yes f.answer.its_kind q))

    from_small : from_of b < 16
    from_small = omega (arith, node_known c.participants (from_of b) (w.valid.records n).party.participants_known f.answer.from_node)

    last_yes_case : T (within c.participants (said_yes c b)) → P
        (brought 1 (with_phase c finishing_phase 1 c.participants (said_yes c b) c.done (named c b)))
    last_yes_case t m = go 1 _
        (commit_world st L F w n (from_of b) (named c b) from_small is_voting was_yes (T_true _ t) pool (told 1) (same_told 1) m sub refl refl
        (ap (λ (x : Tx). x ∷ L.committed) names_it) refl refl)

    one_yes_case : P (brought 0 (with_phase c voting_phase c.outcome c.participants (said_yes c b) c.done (named c b)))
    one_yes_case m = go 0 _
        (same_world st L F w n _ pool (told 0)
        (record {
          serial = refl;
          phase = λ e. absurd (let z : ⊥ = omega arith in z);
          phase' = λ e. absurd (let z : ⊥ = omega (arith, e, is_voting) in z);
          objects = refl;
          count = refl;
          participants = refl;
        })
        (same_told 0) (yes_owner _ _ _ n c (w.sim.owners n) (from_of b) (named c b) was_yes from_small is_voting) m sub refl refl refl refl refl)

  -- dones
  last_done_case : DoneFitting c n b → P (brought 4 (idle_after c.serial c.timestamp c.outcome))
  last_done_case f m = go 4 _ (idle_world st L F w n f.in_phase pool (told 4) (same_told 4) m sub refl refl refl refl refl)

  one_done_case : P (brought 0 (with_phase c c.phase c.outcome c.participants c.yes (said_done c b) c.rivals))
  one_done_case m = go 0 _
      (same_world st L F w n _ pool (told 0) (record { serial = refl; phase = λ e. e; phase' = λ e. e; objects = refl; count = refl; participants = refl })
      (same_told 0) (done_owner _ _ _ n c (w.sim.owners n) (said_done c b)) m sub refl refl refl refl refl)

  pub coordinator_next : Next st L F w (delivery k kept) (at_coordinator st k kept n b)
  unfolding at_coordinator
  coordinator_next = receive_cases P (system st) c n b
      (record {
        as_before = unchanged;
        copied = copied_case;
        endings = λ r. record { gone = λ u e. aborted_case _ (ended_idle e) u; aborting = λ u e. aborted_case _ (ended_on e) u };
        last_yes = last_yes_case;
        one_yes = λ f t. one_yes_case f;
        last_done = λ f t. last_done_case f;
        one_done = λ f t. one_done_case;
      })
      (receive_keeps (system st) c n b (w.valid.records n))
