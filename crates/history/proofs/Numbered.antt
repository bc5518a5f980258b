-- The number of every delivery in a run from an origin: whatever waits is accepted where it goes. What waits is well formed, images are sound, and
-- the kind names the end; and nothing is out of turn, since everything is kept in turn (InTurn).
use mathlib.Core.Path.{◌≡◌, refl, sym, ◌∙◌, ap, ap₂, subst}
use mathlib.Core.Logic.{◌≢◌, ◌⊎◌, inl, inr}
use mathlib.Core.Bool.{Bool, true, false, cond, not, ◌&&◌, ◌||◌}
use mathlib.Core.List.{List, [], ◌∷◌}
use mathlib.Core.Option.{none, some}
use Prim.Native.Nat.{ℕ, ◌<◌, ◌≤◌}
use native.Mathlib.Omega.{arith}
use lib.Dec.{eqb, ltb}
use lib.ListN.{length, get_or}
use borrow.Author.Tests.{eqb-true, eq-eqb, ne_eqb, lt-ltb, le-ltb, ltb-true, ltb-false}
use Rattle.numbers.specs.Sizes.{nodes, longest_message, most_waiting}
use Rattle.mask.specs.Mask.{contains, within}
use Rattle.numbers.specs.Refusal.{first_of}
use Rattle.wire.specs.Message.{Message}
use Rattle.wire.specs.Encode.{encode}
use Rattle.wire.specs.Decode.{kind_of, to_of, owner_of, decode, check_of}
use Rattle.wire.specs.Items.{rival_of, word_of}
use Rattle.image.specs.Layout.{serial, state}
use Rattle.image.specs.Valid.{over}
use Rattle.image.proofs.Sound.{sound_check}
use Rattle.judge.specs.Standing.{above_of, standing}
use Rattle.replica.specs.Steps.{Answer, silent, says}
use Rattle.replica.specs.Receive.{outcome_wrong_turn, wrong_turn, refusals, refusal, Delivered}
use Rattle.replica.proofs.Delivered.{either_way, cleared, step_fine, entries_of_lem, delivered_is}
use Rattle.replica.proofs.Spoken.{named_of}
use Rattle.coordinator.specs.declared.Coordinator.{Coordinator}
use Rattle.coordinator.specs.Step.{Step}
use Rattle.coordinator.specs.System.{System}
use Rattle.coordinator.specs.State.{awaited}
use Rattle.arrivals.specs.Receive.{answers, copy_fits, copy_taken, with_yes, vote_taken, with_done, done_taken, yield_taken, delivered, for_replica}
use Rattle.arrivals.specs.Receive.{receive_refusals, receive_of}
use Rattle.clauses_arrive.proofs.Deliveries.{said_yes, said_done}
use Rattle.steps.specs.Station.{Station, system, with_image, with_record}
use Rattle.steps.specs.Step.{Call, delivery, Outcome, refused_with, taken, putting, taken_out, full, answered, at_replica, at_coordinator, arriving}
use Rattle.steps.specs.Step.{delivery_of}
use Rattle.steps.specs.Step.{step}
use Rattle.protocol.specs.Table.{In}
use Rattle.protocol.specs.Proof.Tables.{clash}
use Rattle.protocol.proofs.Tables.{on}
use Rattle.history.specs.Ledger.{Ledger}
use Rattle.history.specs.Origin.{Origin, Rested}
use Rattle.history.specs.Claims.{AllTyped, Crowded, reached, account, DeliveryNumbers}
use Rattle.history.proofs.Tests.{no_both, and-true, not-true}
use Rattle.history.proofs.Sim.{waits_well}
use Rattle.history.proofs.Books.{Past, World}
use Rattle.history.proofs.Words.{header, word_decoded}
use Rattle.history.proofs.Calls.{zero_first}
use Rattle.history.proofs.Arrive.{in_place}
use Rattle.history.proofs.Acts.{last_stands, behind_stands}
use Rattle.history.proofs.Moves.{Bound}
use Rattle.history.proofs.InTurn.{heard_of, InTurn}
use Rattle.history.proofs.Going.{nodes_named}
use Rattle.history.proofs.Turned.{in_turn_next}
use Rattle.history.proofs.Origins.{rested_in_turn}
use Rattle.history.proofs.Room.{room_next}
use Rattle.history.proofs.Claimed.{always_good}

-- ---- a serial above the last, while that one is not over
ahead_by : (a b : Bool) (u : ℕ) → u ≤ 3 → cond a (above_of u) (cond b u 0) ≡ 5 → (a ≡ true) × (u ≢ over)
unfolding above_of
ahead_by true b u h e = (refl, λ z. let q = sym (ap (λ (x : Bool). cond {A = ℕ} x 4 5) (eq-eqb u 0 z)) ∙ e in let y : ⊥ = omega (arith, q) in y)
ahead_by false true u h e = absurd (let y : ⊥ = omega (arith, h, e) in y)
ahead_by false false u h e = absurd (let y : ⊥ = omega (arith, e) in y)

ahead_above : (l : List ℕ) (m : Message) → state l m.owner ≤ 3 → standing l m ≡ 5 → (serial l m.owner < m.serial) × (state l m.owner ≢ over)
unfolding standing
ahead_above l m h e =
    let z = ahead_by (ltb (serial l m.owner) m.serial) (eqb (serial l m.owner) m.serial) (state l m.owner) h e in
    (ltb-true (serial l m.owner) m.serial z.0, z.1)

-- ---- a delivery at a coordinator that nothing refuses has no number
taken_number : (s : System) (c : Coordinator) (b : List ℕ) → (delivered s c b).number ≡ 0
unfolding delivered copy_taken vote_taken with_yes done_taken with_done yield_taken
taken_number s c b =
    let P : Step → Type 0 = λ r. r.number ≡ 0 in
    let named = (eqb c.phase 1 || eqb c.phase 2) && eqb (rival_of b 0).serial c.serial in
    either_way P (eqb (kind_of b) 2) _ _ (either_way P (copy_fits s c b) _ _ refl refl)
    (either_way P (eqb (kind_of b) 4) _ _ (either_way P (answers c 2 c.participants b) _ _ (either_way P (eqb (word_of b) 0) _ _ refl
    (either_way P (within c.participants (said_yes c b)) _ _ refl refl)) refl)
    (either_way P (eqb (kind_of b) 6) _ _ (either_way P (answers c 3 (awaited c) b) _ _ (either_way P (within (awaited c) (said_done c b)) _ _ refl refl) refl)
    (either_way P (eqb (kind_of b) 7) _ _ (either_way P named _ _ refl refl) refl)))

module _ (st : Station) (L : Ledger) (F : Past) (w : World st L F) (t : InTurn st) (b : List ℕ) (in_pool : In b st.pool) where
  abbrev n : ℕ
  n = to_of b

  abbrev l : List ℕ
  l = st.images n

  abbrev m : Message
  m = decode b

  well : check_of b ≡ 0
  well = waits_well w.state b (w.sim.waits b in_pool)

  -- ---- at a replica
  module _ (order : for_replica (kind_of b) ≡ true) where
    not_ahead : standing l m ≡ 5 → ⊥
    not_ahead e =
        let small = subst (λ (o : ℕ). o < nodes) (sym (header b).3) (nodes_named b well).1 in
        let z = ahead_above l m ((w.valid.images n).0.clauses.owners_sound m.owner small).small e in
        on (heard_of st.images st.records b (t.waits b in_pool) order)
        (λ q. let s = behind_stands l m q in let y : ⊥ = omega (arith, s, e) in y)
        (λ a. let s = (t.not_over n m.owner z.1).present in let r = a.present in let h = z.0 in let y : ⊥ = omega (arith, s, r, h) in y)

    commit_stands : kind_of b ≡ 5 → word_of b ≡ 1 → (standing l m ≡ 0) ⊎ (standing l m ≡ 2)
    commit_stands e f =
        let z : Bound l m.owner m.serial = subst (λ (o : ℕ). Bound l o m.serial) (sym (header b).3)
        (subst (λ (s : ℕ). Bound l (owner_of b) s) (sym (header b).4) ((t.waits b in_pool).a_commit_lem e f)) in
        on z (λ q. inl (behind_stands l m q)) (λ q. inr (last_stands l m q.0 ∙ q.1))

    outcome_fits : kind_of b ≡ 5 → outcome_wrong_turn (Rattle.wire.specs.Formed.word_of m) (standing l m) ≡ false
    unfolding outcome_wrong_turn
    outcome_fits e = by (eqb (Rattle.wire.specs.Formed.word_of m) 1) refl
      where
        by : (x : Bool) → eqb (Rattle.wire.specs.Formed.word_of m) 1 ≡ x
            → cond x (not (eqb (standing l m) 0 || eqb (standing l m) 2)) (eqb (standing l m) 5) ≡ false
        by true q = on (commit_stands e (word_decoded b ∙ eqb-true _ 1 q))
            (λ z. ap (λ (s : ℕ). not (eqb s 0 || eqb s 2)) z) (λ z. ap (λ (s : ℕ). not (eqb s 0 || eqb s 2)) z)
        by false q = ne_eqb (standing l m) 5 not_ahead

    its_turn : wrong_turn l m ≡ false
    unfolding wrong_turn
    its_turn = by (eqb m.kind 1) (eqb m.kind 3) (eqb m.kind 5) refl refl refl
        (subst (λ (k : ℕ). (eqb k 1 || (eqb k 3 || eqb k 5)) ≡ true) (sym (header b).0) order)
      where
        by : (x y z : Bool) → eqb m.kind 1 ≡ x → eqb m.kind 3 ≡ y → eqb m.kind 5 ≡ z → (x || (y || z)) ≡ true
            → cond x (eqb (standing l m) 5)
            (cond y (eqb (standing l m) 5) (cond z (outcome_wrong_turn (Rattle.wire.specs.Formed.word_of m) (standing l m)) true))
            ≡ false
        by true y z p q r e = ne_eqb (standing l m) 5 not_ahead
        by false true z p q r e = ne_eqb (standing l m) 5 not_ahead
        by false false true p q r e = outcome_fits (sym (header b).0 ∙ eqb-true m.kind 5 r)
        by false false false p q r e = absurd (no_both e refl)

    pub replica_clear : refusal longest_message l n b ≡ 0
    unfolding refusal refusals
    replica_clear =
        let c = sound_check l (w.valid.images n).0 in
        let h = (nodes_named b well).0 in
        zero_first (refusals longest_message l n b) (
          ap₂ (λ (x y : ℕ). ltb longest_message longest_message || (eqb x 1 || eqb y 1)) c well,
          (
            ap (λ (x : ℕ). eqb x 2) c,
            (
              ap (λ (x : ℕ). eqb x 3) well,
              (
                ap₂ (λ (x y : Bool). x || not y) (le-ltb 12 n (omega (arith, h))) (eq-eqb m.to n (header b).2),
                (its_turn, tt),
              ),
            ),
          ),
        )

  -- ---- at a coordinator
  pub coordinator_clear : for_replica (kind_of b) ≡ false → first_of (receive_refusals (st.records n) n b) ≡ 0
  unfolding receive_refusals
  coordinator_clear e =
      let h = (nodes_named b well).0 in
      zero_first (receive_refusals (st.records n) n b) (
        ap (λ (x : ℕ). eqb x 1) well,
        (
          ap (λ (x : ℕ). eqb x 3) well,
          (
            ap₂ (λ (x y : Bool). not x || not y) (lt-ltb n nodes h) (eq-eqb n n refl),
            (e, tt),
          ),
        ),
      )

-- ---- a delivery of the k-th message that waits
-- an answer is put, unless the message is kept and the pool is full
answered_number : (st : Station) (k : ℕ) (kept : Bool) (n : ℕ) (i : List ℕ) (a : Answer)
    → ((answered st k kept n i a).number ≡ 0)
    ⊎ (((answered st k kept n i a).number ≡ 12) × ((kept && full st) ≡ true) × ((answered st k false n i a).put ≢ none))
unfolding answered
answered_number st k kept n i silent = inl refl
answered_number st k kept n i (says a) = by (kept && full st)
  where
    put_some : {A : Type 0} (x : A) → some x ≡ none → ⊥
    put_some x e = clash (cc)

    by : (x : Bool) → ((cond x (refused_with 12 st) (putting (encode a) (with_image (taken_out st k kept) n i))).number ≡ 0)
        ⊎ (((cond x (refused_with 12 st) (putting (encode a) (with_image (taken_out st k kept) n i))).number ≡ 12) × (x ≡ true) × (some (encode a) ≢ none))
    by true = inr (refl, refl, put_some (encode a))
    by false = inl refl

module _ (st : Station) (L : Ledger) (F : Past) (w : World st L F) (t : InTurn st) (room : length st.pool ≤ most_waiting) (k : ℕ)
    (waits : k < length st.pool) where
  abbrev b : List ℕ
  b = get_or st.pool k []

  waiting : In b st.pool
  waiting = in_place st.pool k [] waits

  arrives : (kept : Bool) → step st (delivery k kept) ≡ arriving st k kept b
  unfolding step delivery_of
  arrives kept =
      ap (λ (x : Bool). cond x (cond (eqb (check_of b) 0) (arriving st k kept b) (refused_with (check_of b) st)) (refused_with 5 st))
      (lt-ltb k (length st.pool) waits)
      ∙ ap (λ (x : Bool). cond x (arriving st k kept b) (refused_with (check_of b) st))
      (eq-eqb (check_of b) 0 (waits_well w.state b (w.sim.waits b waiting)))

  pub arrives_at : (kept up order : Bool) → contains st.own.on (to_of b) ≡ up → for_replica (kind_of b) ≡ order
      → step st (delivery k kept) ≡ cond up (cond order (at_replica st k kept (to_of b) b) (at_coordinator st k kept (to_of b) b))
      (taken 0 (taken_out st k kept))
  unfolding arriving
  arrives_at kept up order p q = arrives kept
      ∙ ap₂ (λ (x y : Bool). cond x (cond y (at_replica st k kept (to_of b) b) (at_coordinator st k kept (to_of b) b)) (taken 0 (taken_out st k kept))) p q

  -- what the replica makes of it
  abbrev pub made : Delivered
  made = Rattle.replica.specs.Receive.step (st.images (to_of b)) (to_of b) (decode b)

  pub replica_is : (kept : Bool) → for_replica (kind_of b) ≡ true → at_replica st k kept (to_of b) b ≡ answered st k kept (to_of b) made.image made.answer
  unfolding at_replica
  replica_is kept e =
      let l = st.images (to_of b) in
      let z = replica_clear st L F w t b waiting e in
      let q = cleared longest_message l (to_of b) b z in
      let f = (step_fine (to_of b) l (decode b) (named_of (to_of b) (decode b) q.node q.formed) (entries_of_lem (decode b) q.formed)).1 in
      ap (λ (d : Delivered). cond (eqb d.number 0) (answered st k kept (to_of b) d.image d.answer) (refused_with d.number st))
      (delivered_is longest_message l (to_of b) b z)
      ∙ ap (λ (x : Bool). cond x (answered st k kept (to_of b) made.image made.answer) (refused_with made.number st)) (eq-eqb made.number 0 f)

  coordinator_number : (kept : Bool) → for_replica (kind_of b) ≡ false → (at_coordinator st k kept (to_of b) b).number ≡ 0
  unfolding at_coordinator receive_of
  coordinator_number kept e =
      let c = st.records (to_of b) in
      let s = receive_of (system st) c (to_of b) b in
      let z : s.number ≡ 0 =
      ap (λ (x : Bool). (cond {A = Step} x (delivered (system st) c b)
      (record { number = first_of (receive_refusals c (to_of b) b); answer = 0; coordinator = c })).number)
      (eq-eqb (first_of (receive_refusals c (to_of b) b)) 0 (coordinator_clear st L F w t b waiting e))
      ∙ taken_number (system st) c b in
      ap (λ (x : Bool). (cond {A = Outcome} x (taken s.answer (with_record (taken_out st k kept) (to_of b) s.coordinator))
      (refused_with s.number st)).number)
      (eq-eqb s.number 0 z)

  is_full : full st ≡ true → length st.pool ≡ most_waiting
  is_full e = let h = ltb-false (length st.pool) most_waiting (not-true (ltb (length st.pool) most_waiting) e) in omega (arith, h, room)

  abbrev Numbered : Bool → Type 0
  Numbered kept = ((step st (delivery k kept)).number ≡ 0)
      ⊎ Crowded st.pool kept (step st (delivery k kept)).number (step st (delivery k false)).put

  pub waiting_number : (kept : Bool) → Numbered kept
  waiting_number kept = by (contains st.own.on (to_of b)) (for_replica (kind_of b)) refl refl
    where
      by : (up order : Bool) → contains st.own.on (to_of b) ≡ up → for_replica (kind_of b) ≡ order → Numbered kept
      by false order p q = inl (ap (λ (r : Outcome). r.number) (arrives_at kept false order p q))
      by true false p q = inl (ap (λ (r : Outcome). r.number) (arrives_at kept true false p q) ∙ coordinator_number kept q)
      by true true p q =
          let same : (kept : Bool) → step st (delivery k kept) ≡ answered st k kept (to_of b) made.image made.answer =
          λ kept. arrives_at kept true true p q ∙ replica_is kept q in
          on (answered_number st k kept (to_of b) made.image made.answer)
          (λ e. inl (ap (λ (r : Outcome). r.number) (same kept) ∙ e))
          (λ z. let y = and-true kept (full st) z.1 in inr (record {
            is_full = ap (λ (r : Outcome). r.number) (same kept) ∙ z.0;
            is_kept = y.0;
            waiting = is_full y.1;
            an_answer = λ e. z.2 (sym (ap (λ (r : Outcome). r.put) (same false)) ∙ e);
          }))

-- where none waits
pub no_number : (st : Station) (k : ℕ) (kept : Bool) → length st.pool ≤ k → (step st (delivery k kept)).number ≡ 5
unfolding step delivery_of
no_number st k kept h =
    ap (λ (x : Bool). (cond x (cond (eqb (check_of (get_or st.pool k [])) 0) (arriving st k kept (get_or st.pool k []))
    (refused_with (check_of (get_or st.pool k [])) st)) (refused_with 5 st)).number) (le-ltb k (length st.pool) h)

-- ---- every list of steps from an origin
module _ (o : Origin) (r : Rested o) where
  pub always_in_turn : (cs : List Call) → AllTyped cs → InTurn (reached o cs)
  always_in_turn [] a = rested_in_turn o r
  always_in_turn (c ∷ cs) a =
      let g = always_good o r cs a.1 in
      in_turn_next (reached o cs) _ _ g.world g.wide (always_in_turn cs a.1) c

  pub always_room : (cs : List Call) → length (reached o cs).pool ≤ most_waiting
  always_room [] = r.room
  always_room (c ∷ cs) = room_next (reached o cs) (always_room cs) c

  -- THE THEOREM: for every list of steps, whichever nodes are on
  pub delivery_number : (cs : List Call) → AllTyped cs → DeliveryNumbers (account o) cs
  delivery_number cs a = record {
    none_waits = no_number (reached o cs);
    one_waits = λ k kept h.
        waiting_number (reached o cs) _ _ (always_good o r cs a).world (always_in_turn cs a) (always_room cs) k h kept;
  }
