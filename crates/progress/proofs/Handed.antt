-- What a delivery of the message b at place k, not kept, makes of a station: at a replica that is on the image and the answer of its step, at a
-- coordinator that is on the record of its step. No number refuses it, as what waits is always taken (crate history, Numbered).
use mathlib.Core.Path.{◌≡◌, refl, sym, ◌∙◌, ap, ap₂, subst}
use mathlib.Core.Bool.{Bool, true, false, cond}
use mathlib.Core.List.{List, [], ◌∷◌, ◌++◌, append-nil}
use Prim.Native.Nat.{ℕ, ◌+◌, ◌<◌, ◌≤◌}
use native.Mathlib.Omega.{arith}
use lib.Dec.{eqb, ltb}
use lib.ListN.{length, get_or, length-append, drop_of_length-le}
use lib.Seq.{take-append_seam}
use borrow.Author.Tests.{eqb-false, eq-eqb, lt-ltb}
use Rattle.numbers.specs.Sizes.{longest_message, most_waiting}
use Rattle.mask.specs.Mask.{contains}
use Rattle.numbers.specs.Refusal.{first_of}
use Rattle.wire.specs.Decode.{kind_of, to_of, decode, check_of}
use Rattle.replica.specs.Receive.{Delivered}
use Rattle.replica.proofs.Delivered.{cleared, step_fine, entries_of_lem, delivered_is}
use Rattle.replica.proofs.Spoken.{named_of}
use Rattle.coordinator.specs.Step.{Step}
use Rattle.arrivals.specs.Receive.{for_replica, delivered, receive_refusals, receive_of}
use Rattle.steps.specs.Station.{Station, system, with_record, without}
use Rattle.steps.specs.Step.{delivery, Outcome, refused_with, taken, taken_out, answered, at_replica, at_coordinator, arriving, delivery_of, step}
use Rattle.protocol.specs.Table.{In}
use Rattle.protocol.proofs.Tables.{on}
use Rattle.history.specs.Ledger.{Ledger}
use Rattle.history.proofs.Tests.{no_both}
use Rattle.history.proofs.Sim.{waits_well}
use Rattle.history.proofs.Books.{Past, World}
use Rattle.history.proofs.Arrive.{in_place}
use Rattle.history.proofs.InTurn.{InTurn}
use Rattle.history.proofs.Numbered.{replica_clear, coordinator_clear, waiting_number}

-- ---- a pool's last message
pub last_at : (pool : List (List ℕ)) (b : List ℕ) → get_or (pool ++ (b ∷ [])) (length pool) [] ≡ b
last_at [] b = refl
last_at (x ∷ pool) b = last_at pool b

pub without_last : (pool : List (List ℕ)) (b : List ℕ) → without (length pool) (pool ++ (b ∷ [])) ≡ pool
without_last pool b =
    let e = length-append pool (b ∷ []) in
    ap₂ ◌++◌ (take-append_seam pool (b ∷ [])) (drop_of_length-le (pool ++ (b ∷ [])) {i = length pool + 1} (omega (arith, e))) ∙ append-nil pool

-- ---- a delivery
module _ (st : Station) (L : Ledger) (F : Past) (w : World st L F) (t : InTurn st) (k : ℕ) (b : List ℕ) (here : get_or st.pool k [] ≡ b)
    (room : length st.pool ≤ most_waiting) (waits : k < length st.pool) (up : contains st.own.on (to_of b) ≡ true) where
  abbrev n : ℕ
  n = to_of b

  pub in_pool : In b st.pool
  in_pool = subst (λ (y : List ℕ). In y st.pool) here (in_place st.pool k [] waits)

  arrives : step st (delivery k false) ≡ cond (for_replica (kind_of b)) (at_replica st k false n b) (at_coordinator st k false n b)
  unfolding step delivery_of arriving
  arrives =
      ap (λ (y : List ℕ). cond (ltb k (length st.pool)) (cond (eqb (check_of y) 0) (arriving st k false y) (refused_with (check_of y) st))
      (refused_with 5 st)) here
      ∙ ap (λ (x : Bool). cond x (cond (eqb (check_of b) 0) (arriving st k false b) (refused_with (check_of b) st)) (refused_with 5 st))
      (lt-ltb k (length st.pool) waits)
      ∙ ap (λ (x : Bool). cond x (arriving st k false b) (refused_with (check_of b) st))
      (eq-eqb (check_of b) 0 (waits_well w.state b (w.sim.waits b in_pool)))
      ∙ ap (λ (x : Bool). cond x (cond (for_replica (kind_of b)) (at_replica st k false n b) (at_coordinator st k false n b)) (taken 0 (taken_out st k false)))
      up

  -- what the replica makes of it
  abbrev pub made : Delivered
  made = Rattle.replica.specs.Receive.step (st.images n) n (decode b)

  pub at_replica_lem : for_replica (kind_of b) ≡ true → step st (delivery k false) ≡ answered st k false n made.image made.answer
  unfolding at_replica
  at_replica_lem e =
      let l = st.images n in
      let z = replica_clear st L F w t b in_pool e in
      let q = cleared longest_message l n b z in
      let f = (step_fine n l (decode b) (named_of n (decode b) q.node q.formed) (entries_of_lem (decode b) q.formed)).1 in
      arrives ∙ ap (λ (x : Bool). cond x (at_replica st k false n b) (at_coordinator st k false n b)) e
      ∙ ap (λ (d : Delivered). cond (eqb d.number 0) (answered st k false n d.image d.answer) (refused_with d.number st))
      (delivered_is longest_message l n b z)
      ∙ ap (λ (x : Bool). cond x (answered st k false n made.image made.answer) (refused_with made.number st)) (eq-eqb made.number 0 f)

  -- what the coordinator makes of it
  abbrev pub taking : Step
  taking = delivered (system st) (st.records n) b

  abbrev out : Bool → Outcome
  out x = cond x (taken taking.answer (with_record (taken_out st k false) n taking.coordinator)) (refused_with taking.number st)

  pub at_coordinator_lem : for_replica (kind_of b) ≡ false
      → step st (delivery k false) ≡ taken taking.answer (with_record (taken_out st k false) n taking.coordinator)
  unfolding at_coordinator receive_of
  at_coordinator_lem e = by (eqb taking.number 0) refl
    where
      arrived : step st (delivery k false) ≡ out (eqb taking.number 0)
      arrived =
          let c = st.records n in
          arrives ∙ ap (λ (x : Bool). cond x (at_replica st k false n b) (at_coordinator st k false n b)) e
          ∙ ap (λ (x : Bool). let s = cond {A = Step} x taking (record { number = first_of (receive_refusals c n b); answer = 0; coordinator = c }) in
          cond (eqb s.number 0) (taken s.answer (with_record (taken_out st k false) n s.coordinator)) (refused_with s.number st))
          (eq-eqb (first_of (receive_refusals c n b)) 0 (coordinator_clear st L F w t b in_pool e))

      accepted : (step st (delivery k false)).number ≡ 0
      accepted = on (waiting_number st L F w t room k waits false) (λ q. q) (λ q. absurd (no_both q.is_kept refl))

      by : (x : Bool) → eqb taking.number 0 ≡ x → step st (delivery k false) ≡ out true
      by true q = arrived ∙ ap out q
      by false q = absurd (eqb-false taking.number 0 q (sym (ap (λ (r : Outcome). r.number) (arrived ∙ ap out q)) ∙ accepted))
