-- A node's present transaction that was begun since the origin is told committed exactly when the node's record says that it was: while it is open or
-- voting neither does; while finishing the record says what was decided (crate history); and idle it says what it said when it ended (Ends).
use mathlib.Core.Path.{◌≡◌, refl, sym, ap, subst, ◌∙◌}
use mathlib.Core.Logic.{◌⊎◌, inl, inr}
use mathlib.Core.Bool.{Bool, true, ◌&&◌, ◌||◌}
use mathlib.Core.List.{List, [], ◌∷◌}
use mathlib.Core.Option.{Option}
use Prim.Native.Nat.{ℕ, zero, suc, ◌<◌, ◌≤◌}
use native.Mathlib.Omega.{arith}
use lib.Dec.{eqb}
use lib.ListN.{get_or}
use borrow.Author.Tests.{eqb-true, eq-eqb}
use Rattle.wire.specs.Decode.{to_of}
use Rattle.coordinator.specs.declared.Coordinator.{Coordinator}
use Rattle.coordinator.specs.State.{idle_phase, open_phase, voting_phase, finishing_phase, committed, aborted}
use Rattle.replica.proofs.Delivered.{either_way}
use Rattle.clauses.proofs.Cases.{either_of}
use Rattle.clauses_arrive.proofs.Messages.{vote_owner}
use Rattle.settings.specs.Settings.{decided_committed}
use Rattle.steps.specs.Station.{Station}
use Rattle.steps.specs.Step.{Call as Step, begin, open_read, open_write, set_value, found, reselect, request_commit, abort, send, delivery, drop, switch, step}
use Rattle.steps.specs.Run.{Event}
use Rattle.protocol.specs.Table.{In}
use Rattle.protocol.specs.State.{Tx}
use Rattle.protocol.specs.Proof.Tables.{clash}
use Rattle.protocol.proofs.Tables.{on}
use Rattle.history.specs.Ledger.{Ledger, tx_of, noted, note, ledger_from}
use Rattle.history.specs.Origin.{Origin as Machine, Rested as MachineRested}
use Rattle.history.specs.Claims.{event}
use Rattle.history.specs.Claims.{reached as machineReached, told as machineTold, votes as machineVotes, AllTyped as AllStepsTyped}
use Rattle.history.proofs.Tests.{and-true}
use Rattle.history.proofs.Sim.{tx}
use Rattle.history.proofs.Books.{phases}
use Rattle.history.proofs.Polls.{not_told}
use Rattle.history.proofs.Meaning.{Says, note_told, committing}
use Rattle.history.proofs.Claimed.{Earlier, always_good, always_counts}
use Rattle.accounts.proofs.Ends.{Stays, Aborted, Ends, any_next}

-- ---- what is told committed stays so
module _ (L : Ledger) (x : Tx) (i : In x L.committed) where
  noted_kept : (c : Step) (answer : ℕ) (p : Option (List ℕ)) → In x (noted L c answer p).committed
  unfolding noted
  noted_kept (begin n w) answer p = i
  noted_kept (open_read n t) answer p = i
  noted_kept (open_write n t) answer p = i
  noted_kept (set_value n t v) answer p = i
  noted_kept (found n t) answer p = i
  noted_kept (reselect n live d) answer p = i
  noted_kept (request_commit n) answer p = i
  noted_kept (abort n) answer p = i
  noted_kept (send n to t) answer p = i
  noted_kept (delivery k kept) answer p = either_way (In x) (eqb answer committed) _ _ (inr i) i
  noted_kept (drop k) answer p = i
  noted_kept (switch n up) answer p = i

  pub kept_told : (e : Event) → In x (note L e).committed
  unfolding note
  kept_told e = either_way (λ (K : Ledger). In x K.committed) (eqb e.number 0) _ _ (noted_kept e.call e.answer e.put) i

-- ---- the record's word
said_out : (o p : ℕ) → (eqb o committed && (eqb p idle_phase || eqb p finishing_phase)) ≡ true
    → (o ≡ committed) × ((p ≡ idle_phase) ⊎ (p ≡ finishing_phase))
said_out o p e = let z = and-true (eqb o committed) _ e in
    (eqb-true o committed z.0, either_of (eqb p idle_phase) (eqb p finishing_phase) (eqb-true p idle_phase) (eqb-true p finishing_phase) z.1)

said_in : (o p : ℕ) → o ≡ committed → (p ≡ idle_phase) ⊎ (p ≡ finishing_phase) → (eqb o committed && (eqb p idle_phase || eqb p finishing_phase)) ≡ true
said_in o p e f = ap (λ (b : Bool). b && (eqb p idle_phase || eqb p finishing_phase)) (eq-eqb o committed e) ∙ on f
    (λ q. ap (λ (b : Bool). b || eqb p finishing_phase) (eq-eqb p idle_phase q))
    (λ q. ap (λ (k : ℕ). eqb k idle_phase || eqb k finishing_phase) q)

-- it is told committed exactly when it is so
abbrev pub Both : Type 0 → Type 0 → Type 0
Both P Q = (P → Q) × (Q → P)

-- ---- one that a step tells committed is its owner's present one, and was voting
pub record Newly (st : Station) (x : Tx) (answer : ℕ) : Type 0 where
  pub voting : (st.records x.owner).phase ≡ voting_phase
  pub present : x.serial ≡ (st.records x.owner).serial
  pub says_so : answer ≡ committed

module _ (o : Machine) (r : MachineRested o) where
  module _ (c : Step) (es : List Step) (a : AllStepsTyped es) (x : Tx) where
    abbrev st : Station
    st = machineReached o es

    says_new : Says (machineTold o es) (event o es c) x → Newly (machineReached o es) x (step (machineReached o es) c).answer
    unfolding step
    says_new s =
        let g = always_good o r es a in
        let b = get_or st.pool s.place [] in
        let m = committing st (machineTold o es) (Earlier o r es) (machineVotes o es) g (always_counts o r es a) s.place s.kept
        (ap (λ (y : Step). (step st y).answer) (sym s.a_delivery) ∙ s.says_so) in
        let f = m.commits.a_yes.answer in
        let is : tx_of b ≡ x = ap (λ (l : List (List ℕ)). tx_of (get_or l s.place [])) (sym g.world.books.pool_as) ∙ s.names in
        let own : x.owner ≡ to_of b = ap (λ (y : Tx). y.owner) (sym is) ∙ vote_owner (to_of b) b f.taken f.its_kind in
        record {
          voting = ap (λ (n : ℕ). (st.records n).phase) own ∙ f.in_phase;
          present = ap (λ (y : Tx). y.serial) (sym is) ∙ f.its_serial ∙ ap (λ (n : ℕ). (st.records n).serial) (sym own);
          says_so = s.says_so;
        }

    pub new_told : In x (machineTold o (c ∷ es)).committed
        → In x (machineTold o es).committed ⊎ Newly (machineReached o es) x (step (machineReached o es) c).answer
    unfolding ledger_from
    new_told i = on (note_told (machineTold o es) x (event o es c) i) inl (λ s. inr (says_new s))

    pub still_told : In x (machineTold o es).committed → In x (machineTold o (c ∷ es)).committed
    unfolding ledger_from
    still_told i = kept_told (machineTold o es) x i (event o es c)

  -- ---- a node's present transaction
  module _ (n : ℕ) where
    abbrev at : List Step → Coordinator
    at es = (machineReached o es).records n

    abbrev Told : List Step → Type 0
    Told es = In (tx n (at es).serial) (machineTold o es).committed

    finishing_told : (es : List Step) → AllStepsTyped es → (at es).phase ≡ finishing_phase → Both (Told es) ((at es).outcome ≡ committed)
    finishing_told es a p =
        let g = (always_good o r es a).world in (
          λ i. by (at es).outcome refl (g.valid.records n).numbers.outcome_known i,
          λ q. g.books.decided.is_told _ ((g.sim.owners n).when_committed p q),
        )
      where
        by : (k : ℕ) → (at es).outcome ≡ k → (at es).outcome ≤ aborted → Told es → (at es).outcome ≡ committed
        by zero e h i = let m = ((always_good o r es a).world.valid.records n).votes in
            absurd (let z : ⊥ = let y = m.else_aborted p (λ u. let q = m.agreed_commits p u in omega (arith, e, q)) in omega (arith, e, y) in z)
        by (suc zero) e h i = e
        by (suc (suc zero)) e h i = let g = (always_good o r es a).world in
            let q = g.books.decided.told_so _ i in let y = (g.sim.owners n).when_aborted p e in absurd (clash (cc))
        by (suc (suc (suc k))) e h i = absurd (let z : ⊥ = omega (arith, e, h) in z)

    none_told : (es : List Step) → AllStepsTyped es → ((at es).phase ≡ open_phase) ⊎ ((at es).phase ≡ voting_phase) → Told es → ⊥
    none_told es a = not_told (machineReached o es) (machineTold o es) (Earlier o r es) (machineVotes o es) (always_good o r es a) (always_counts o r es a) n

    idle_told : (es : List Step) → AllStepsTyped es → (o.station.records n).serial < (at es).serial → (at es).phase ≡ idle_phase
        → Both (Told es) ((at es).outcome ≡ committed)
    idle_told [] a h p = absurd (let z : ⊥ = omega (arith, h) in z)
    idle_told (c ∷ es) a h p = on (any_next (machineReached o es) n c) (λ k. by (λ g q. idle_told es a.1 g q) k (k.idle p))
        (λ q. absurd (let z : ⊥ = omega (arith, p, q) in z))
      where
        Next : Type 0
        Next = Both (Told (c ∷ es)) ((at (c ∷ es)).outcome ≡ committed)

        -- its transaction is the one that it was, and no other is told
        was_told : (at (c ∷ es)).serial ≡ (at es).serial → Told (c ∷ es)
            → Told es ⊎ Newly (machineReached o es) (tx n (at es).serial) (step (machineReached o es) c).answer
        was_told e i = new_told c es a.1 (tx n (at es).serial) (subst (λ (s : ℕ). In (tx n s) (machineTold o (c ∷ es)).committed) e i)

        IfIdle : Type 0
        IfIdle = (o.station.records n).serial < (at es).serial → (at es).phase ≡ idle_phase → Both (Told es) ((at es).outcome ≡ committed)

        stays : IfIdle → Stays (at es) (at (c ∷ es)) → (at (c ∷ es)).serial ≡ (at es).serial → Next
        stays f k e =
            let z : Both (Told es) ((at es).outcome ≡ committed) = on k.0 (f (omega (arith, h, e))) (finishing_told es a.1) in (
              λ i. k.1 ∙ on (was_told e i) z.0
                  (λ w. absurd (let v = w.voting in on k.0 (λ q. let y : ⊥ = omega (arith, v, q) in y) (λ q. let y : ⊥ = omega (arith, v, q) in y))),
              λ q. subst (λ (s : ℕ). In (tx n s) (machineTold o (c ∷ es)).committed) (sym e)
                  (still_told c es a.1 (tx n (at es).serial) (z.1 (sym k.1 ∙ q))),
            )

        gives_up : Aborted (at es) (at (c ∷ es)) (step (machineReached o es) c).answer → (at (c ∷ es)).serial ≡ (at es).serial → Next
        gives_up k e = (
          λ i. absurd (on (was_told e i) (none_told es a.1 k.0) (λ w. k.2 w.says_so)),
          λ q. absurd (let y = k.1 in let z : ⊥ = omega (arith, q, y) in z),
        )

        by : IfIdle → Ends (at es) (at (c ∷ es)) (step (machineReached o es) c).answer
            → Stays (at es) (at (c ∷ es)) ⊎ Aborted (at es) (at (c ∷ es)) (step (machineReached o es) c).answer → Next
        by f k (inl z) = stays f z k.serial
        by f k (inr z) = gives_up z k.serial

    -- ---- THE THEOREM
    pub told_decided : (es : List Step) → AllStepsTyped es → (o.station.records n).serial < (at es).serial
        → Both (Told es) (decided_committed (at es) ≡ true)
    told_decided es a h =
        let g = (always_good o r es a).world in
        phases (machineReached o es) g.state g.log g.sim n (g.valid.records n)
        (λ p. let z = idle_told es a h p in (λ i. said_in _ _ (z.0 i) (inl p), λ e. z.1 (said_out (at es).outcome (at es).phase e).0))
        (λ p. (λ i. absurd (none_told es a (inl p) i), λ e. absurd (busy e (inl p))))
        (λ p. (λ i. absurd (none_told es a (inr p) i), λ e. absurd (busy e (inr p))))
        (λ p. let z = finishing_told es a p in (λ i. said_in _ _ (z.0 i) (inr p), λ e. z.1 (said_out (at es).outcome (at es).phase e).0))
      where
        busy : decided_committed (at es) ≡ true → ((at es).phase ≡ open_phase) ⊎ ((at es).phase ≡ voting_phase) → ⊥
        busy e f = on (said_out (at es).outcome (at es).phase e).1
            (λ p. on f (λ q. let z : ⊥ = omega (arith, p, q) in z) (λ q. let z : ⊥ = omega (arith, p, q) in z))
            (λ p. on f (λ q. let z : ⊥ = omega (arith, p, q) in z) (λ q. let z : ⊥ = omega (arith, p, q) in z))
