-- What waits of an earlier transaction than its owner's present one changes nothing where it comes, and a yield nothing that it does not name. At a replica
-- it is late, since its owner awaits only dones of the present one (InTurn); at a coordinator it does not fit, since its serial is another.
use mathlib.Core.Path.{◌≡◌, refl, sym, ◌∙◌, ap, subst}
use mathlib.Core.Logic.{◌≢◌}
use mathlib.Core.Bool.{Bool, true, false, ◌&&◌}
use mathlib.Core.List.{List, []}
use Prim.Native.Nat.{ℕ, ◌%◌, ◌<◌, ◌≤◌}
use native.Mathlib.Omega.{arith}
use lib.Dec.{eqb}
use lib.ListN.{length, get_or}
use Rattle.numbers.specs.Sizes.{most_waiting}
use Rattle.mask.specs.Mask.{contains}
use Rattle.wire.specs.Message.{Message, yield}
use Rattle.wire.specs.Decode.{kind_of, to_of, owner_of, serial_of, decode}
use Rattle.wire.specs.Items.{rival_of}
use Rattle.judge.specs.Standing.{standing}
use Rattle.replica.specs.Steps.{Answer, silent, says}
use Rattle.replica.specs.Receive.{Delivered}
use Rattle.replica.specs.Receive.{step as replicaStep}
use Rattle.replica.proofs.Delivered.{either_way}
use Rattle.replica.proofs.Late.{late_fetch, late_ask, late_outcome}
use Rattle.coordinator.specs.declared.Coordinator.{Coordinator}
use Rattle.coordinator.specs.Step.{Step}
use Rattle.coordinator.specs.System.{System}
use Rattle.arrivals.specs.Receive.{for_replica, receive_of}
use Rattle.clauses_arrive.proofs.Messages.{answer_owner}
use Rattle.clauses_arrive.proofs.Deliveries.{Fitting, receive_cases}
use Rattle.steps.specs.Station.{Station, system}
use Rattle.steps.specs.Step.{Call, delivery, Outcome, step, full, answered, at_coordinator}
use Rattle.protocol.specs.Table.{In}
use Rattle.protocol.proofs.Tables.{on}
use Rattle.history.specs.Ledger.{Ledger}
use Rattle.history.specs.Origin.{Origin, Rested}
use Rattle.history.specs.Claims.{AllTyped, Unmoved, EarlierTries, reached, account}
use Rattle.history.proofs.Tests.{no_both}
use Rattle.history.proofs.Books.{Past, World}
use Rattle.history.proofs.Words.{header}
use Rattle.history.proofs.Carry.{put_all}
use Rattle.history.proofs.Acts.{behind_stands}
use Rattle.history.proofs.Arrive.{in_place}
use Rattle.history.proofs.InTurn.{heard_of, InTurn}
use Rattle.history.proofs.Claimed.{always_good}
use Rattle.history.proofs.Numbered.{arrives_at, replica_is, always_in_turn, always_room}

-- ---- at a replica: what is late leaves the image
late_still : (l : List ℕ) (me : ℕ) (m : Message) → standing l m ≡ 0 → (replicaStep l me m).image ≡ l
unfolding replicaStep
late_still l me m e =
    let P : Delivered → Type 0 = λ d. d.image ≡ l in
    either_way P (eqb m.kind 1) _ _ (late_fetch l m e me).0
    (either_way P (eqb m.kind 3) _ _ (late_ask l m e me).0 (either_way P (eqb m.kind 5) _ _ (late_outcome l m e) refl))

-- ---- at a coordinator: what neither answers the present transaction nor is a yield that names it leaves the record
unfit_still : (s : System) (c : Coordinator) (me : ℕ) (b : List ℕ)
    → ((kind phase nodes : ℕ) → eqb (kind % 2) 1 ≡ false → Fitting c me kind phase nodes b → ⊥)
    → (kind_of b ≡ yield → (rival_of b 0).serial ≡ c.serial → ⊥) → (receive_of s c me b).coordinator ≡ c
unfit_still s c me b unfit unnamed = receive_cases (λ (x : Step). x.coordinator ≡ c) s c me b (record {
  as_before = λ number. refl;
  copied = λ f. absurd (unfit _ _ _ refl f.answer);
  endings = λ a. absurd (on a (λ f. unfit _ _ _ refl f.answer) (λ f. unnamed f.its_kind f.its_serial));
  last_yes = λ f t. absurd (unfit _ _ _ refl f.answer);
  one_yes = λ f t. absurd (unfit _ _ _ refl f.answer);
  last_done = λ f t. absurd (unfit _ _ _ refl f);
  one_done = λ f t. absurd (unfit _ _ _ refl f);
})

-- ---- the station
still : (st : Station) → Unmoved st st
still st = record { images = λ n. refl; records = λ n. refl }

module _ (st : Station) where
  abbrev Leaves : Outcome → Type 0
  Leaves r = Unmoved st r.station

  answered_still : (k : ℕ) (kept : Bool) (n : ℕ) (l : List ℕ) (a : Answer) → l ≡ st.images n → Leaves (answered st k kept n l a)
  unfolding answered
  answered_still k kept n l silent e = record { images = put_all (λ i j. j ≡ st.images i) st.images n l e (λ i q. refl); records = λ i. refl }
  answered_still k kept n l (says a) e = either_way Leaves (kept && full st) _ _ (still st)
      (record { images = put_all (λ i j. j ≡ st.images i) st.images n l e (λ i q. refl); records = λ i. refl })

  received_still : (k : ℕ) (kept : Bool) (n : ℕ) (b : List ℕ) → (receive_of (system st) (st.records n) n b).coordinator ≡ st.records n
      → Leaves (at_coordinator st k kept n b)
  unfolding at_coordinator
  received_still k kept n b e = either_way Leaves (eqb (receive_of (system st) (st.records n) n b).number 0) _ _
      (record { images = λ i. refl; records = put_all (λ i c. c ≡ st.records i) st.records n _ e (λ i q. refl) }) (still st)

module _ (st : Station) (L : Ledger) (F : Past) (w : World st L F) (t : InTurn st) (room : length st.pool ≤ most_waiting) (k : ℕ)
    (waits : k < length st.pool) where
  abbrev b : List ℕ
  b = get_or st.pool k []

  in_pool : In b st.pool
  in_pool = in_place st.pool k [] waits

  -- at the node that it names, on or off
  comes : (kept : Bool) → (for_replica (kind_of b) ≡ true → standing (st.images (to_of b)) (decode b) ≡ 0)
      → (for_replica (kind_of b) ≡ false → (receive_of (system st) (st.records (to_of b)) (to_of b) b).coordinator ≡ st.records (to_of b))
      → Unmoved st (step st (delivery k kept)).station
  comes kept f g = by (contains st.own.on (to_of b)) (for_replica (kind_of b)) refl refl
    where
      by : (up order : Bool) → contains st.own.on (to_of b) ≡ up → for_replica (kind_of b) ≡ order → Unmoved st (step st (delivery k kept)).station
      by false order p q = subst (Leaves st) (sym (arrives_at st L F w t room k waits kept false order p q))
          (record { images = λ n. refl; records = λ n. refl })
      by true true p q = subst (Leaves st) (sym (arrives_at st L F w t room k waits kept true true p q ∙ replica_is st L F w t room k waits kept q))
          (answered_still st k kept (to_of b) _ _ (late_still (st.images (to_of b)) (to_of b) (decode b) (f q)))
      by true false p q = subst (Leaves st) (sym (arrives_at st L F w t room k waits kept true false p q))
          (received_still st k kept (to_of b) b (g q))

  -- of an earlier serial: its owner awaits nobody's done of it, and it answers nothing
  pub late_comes : (kept : Bool) → kind_of b ≢ yield → serial_of b < (st.records (owner_of b)).serial → Unmoved st (step st (delivery k kept)).station
  late_comes kept no-yield h = comes kept
      (λ q. behind_stands (st.images (to_of b)) (decode b) (on (heard_of st.images st.records b (t.waits b in_pool) q) (λ z. z)
      (λ a. absurd (let e = a.present in let o = (header b).3 in let s = (header b).4 in
      let r : (st.records (decode b).owner).serial ≡ (st.records (owner_of b)).serial = ap (λ (n : ℕ). (st.records n).serial) o in
      let y : ⊥ = omega (arith, e, s, r, h) in y))))
      (λ q. unfit_still (system st) (st.records (to_of b)) (to_of b) b
      (λ kind phase nodes even f.
      let r = ap (λ (n : ℕ). (st.records n).serial) (answer_owner (to_of b) b f.taken kind even f.its_kind) in
      let e = f.its_serial in let y : ⊥ = omega (arith, e, r, h) in y)
      (λ e. absurd (no-yield e)))

  -- a yield that names another
  pub yield_comes : (kept : Bool) → kind_of b ≡ yield → (rival_of b 0).serial ≢ (st.records (to_of b)).serial → Unmoved st (step st (delivery k kept)).station
  yield_comes kept is-yield other = comes kept
      (λ q. absurd (no_both q (ap for_replica is-yield)))
      (λ q. unfit_still (system st) (st.records (to_of b)) (to_of b) b
      (λ kind phase nodes even f. no_both (sym (ap (λ (n : ℕ). eqb (n % 2) 1) (sym is-yield ∙ f.its_kind))) even)
      (λ e. other))

-- ---- every list of steps from an origin
-- THE THEOREM
pub earlier_tries : (o : Origin) → Rested o → (cs : List Call) → AllTyped cs → EarlierTries (account o) cs
earlier_tries o r cs a =
    let w = (always_good o r cs a).world in
    let t = always_in_turn o r cs a in
    let room = always_room o r cs in
    record {
      late = λ k kept h. late_comes (reached o cs) _ _ w t room k h kept;
      yields = λ k kept h. yield_comes (reached o cs) _ _ w t room k h kept;
    }
