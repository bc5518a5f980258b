-- Calls and messages that are a coordinator's transition: votes asked for, the last yes, an abort. They move the phase of one transaction, the
-- owner's present one; all others stay as they were.
use mathlib.Core.Path.{◌≡◌, refl, sym, ◌∙◌, ap, subst}
use mathlib.Core.Logic.{◌≢◌, ◌⊎◌, inl, inr}
use mathlib.Core.Bool.{Bool, true, false, cond}
use mathlib.Core.List.{List}
use Prim.Native.Nat.{ℕ, ◌<◌}
use native.Mathlib.Omega.{arith}
use lib.Dec.{eqb}
use Rattle.mask.specs.Mask.{contains, only, joined, within}
use Rattle.mask.proofs.Laws.{within_contains}
use Rattle.mask.proofs.Tests.{T_true}
use Rattle.coordinator.specs.declared.Coordinator.{Coordinator}
use Rattle.coordinator.specs.System.{System}
use Rattle.coordinator.specs.State.{open_phase, voting_phase, finishing_phase, place_of, object_at, is_open, awaited, idle_after}
use Rattle.coordinator.specs.Calls.{with_phase, requested, ended_aborted}
use Rattle.steps.specs.Station.{Station, put_at}
use Rattle.protocol.specs.Table.{put, In}
use Rattle.protocol.specs.Rules.{unused}
use Rattle.protocol.specs.State.{Tx, Tx-discrete, fresh, voting, committed, aborted, Contents, State}
use Rattle.protocol.specs.Transitions.{do_ask, CanAsk, do_commit, CanCommit, do_abort, CanAbort, Step, ask, commit, abort}
use Rattle.protocol.proofs.Tables.{on, put_cases, put_here}
use Rattle.protocol.proofs.Refine.Growth.{step_grows}
use Rattle.clauses.proofs.Parts.{true-T}
use Rattle.history.specs.Sane.{Sane}
use Rattle.history.proofs.Quorums.{rules, of_mask}
use Rattle.history.proofs.Sim.{tx, later_tx, mode_of, contents_of, Owner, Sim}
use Rattle.history.proofs.Carry.{onward, put_all, owner_on, by_one, reads_still}
use Rattle.history.proofs.Quiet.{idle_owner, agreed_by}

-- ---- other transactions
pub put_else : {X : Type 0} (f : Tx → X) (x : Tx) (a : X) (y : Tx) → (y ≡ x → ⊥) → put Tx-discrete f x a y ≡ f y
put_else f x a y e = on (put_cases Tx-discrete f x a y) (λ z. absurd (e z.0)) (λ z. z.1)

-- ---- a station after a coordinator's transition: the record at n is c, all other records are as they were
module _ {s : System} {sane : Sane s} (st : Station) (σ σ' : State ℕ) (l : List Tx) (sim : Sim sane st σ l) (n : ℕ) (c : Coordinator)
    (g : Step (rules sane) σ σ')
    (others : (y : Tx) → (y.owner ≡ n → ⊥) → (σ'.history.phase y ≡ σ.history.phase y) × (σ'.history.contents y ≡ σ.history.contents y)) where
  pub owners_after : Owner σ'.history σ'.votes σ'.sent n c
      → (i : ℕ) → Owner σ'.history σ'.votes σ'.sent i (put_at st.records n c i)
  owners_after w = put_all (Owner σ'.history σ'.votes σ'.sent) st.records n c w
      (λ i e. owner_on (onward (step_grows g)) i (st.records i) (λ s. (others (tx i s) e).0) (λ s. (others (tx i s) e).1) (sim.owners i))

-- ---- votes asked for
module _ {s : System} {sane : Sane s} (st : Station) (σ : State ℕ) (l : List Tx) (sim : Sim sane st σ l) (n : ℕ) where
  abbrev c : Coordinator
  c = st.records n

  abbrev x : Tx
  x = tx n c.serial

  w : Owner σ.history σ.votes σ.sent n c
  w = sim.owners n

  abbrev with_it : Coordinator → List (List ℕ) → Station
  with_it d pool = record { images = st.images; records = put_at st.records n d; pool = pool; own = st.own }

  module _ (party : ℕ) (open-now : c.phase ≡ open_phase) (counts : s.is_write party ≡ true)
      (placed : (t : ℕ) → is_open c t ≡ true → (object_at c t).object ≡ t) where
    abbrev asked_for : Contents ℕ
    asked_for = contents_of (requested c party)

    found_sent : (t : ℕ) (b : Bool) → is_open c t ≡ b → cond b (mode_of (object_at c t).mode) unused ≢ unused
        → (((object_at c t).version ≡ 0) × ((object_at c t).value ≡ 0))
        ⊎ In (record { object = t; version = (object_at c t).version; value = (object_at c t).value }) σ.sent
    found_sent t false e q = absurd (q refl)
    found_sent t true e q = on (w.found (place_of c t)) inl
        (λ i. inr (subst (λ (k : ℕ). In (record { object = k; version = (object_at c t).version; value = (object_at c t).value }) σ.sent) (placed t e) i))

    pub can_ask : CanAsk (rules sane) σ x asked_for
    unfolding requested
    can_ask = record {
      phase = w.while_open open-now;
      good = of_mask s.is_write party counts;
      found = λ t q. found_sent t (is_open c t) refl q;
    }

    abbrev σ₁ : State ℕ
    σ₁ = do_ask σ x asked_for

    owner_asked : Owner σ₁.history σ₁.votes σ₁.sent n (requested c party)
    unfolding requested
    owner_asked = record {
      later = λ s e. put_else σ.history.phase x voting (tx n s) (later_tx n s c.serial e) ∙ w.later s e;
      while_open = λ e. absurd (let z : ⊥ = omega arith in z);
      while_voting = λ e. put_here Tx-discrete σ.history.phase x voting;
      when_committed = λ e f. absurd (let z : ⊥ = omega arith in z);
      when_aborted = λ e f. absurd (let z : ⊥ = omega arith in z);
      asked = λ e. put_here Tx-discrete σ.history.contents x asked_for;
      agreed = w.agreed;
      found = w.found;
    }

    pub sim_asked : Sim sane (with_it (requested c party) st.pool) σ₁ l
    sim_asked = by_one st (with_it (requested c party) st.pool) l sim (ask x asked_for can_ask)
        (reads_still st σ σ₁.history σ₁.chain sim.reads) (λ i t. refl) (λ i t. refl)
        (owners_after st σ σ₁ l sim n (requested c party) (ask x asked_for can_ask)
        (λ y e. (
          put_else σ.history.phase x voting y (λ f. e (ap (λ (u : Tx). u.owner) f)),
          put_else σ.history.contents x asked_for y (λ f. e (ap (λ (u : Tx). u.owner) f)),
        )) owner_asked)
        (λ b i. inl i)

  -- ---- an abort, while open or voting; with nobody awaited the record is idle at once
  module _ (undecided : (c.phase ≡ open_phase) ⊎ (c.phase ≡ voting_phase)) where
    pub can_abort : CanAbort σ x
    can_abort = on undecided (λ e. inl (w.while_open e)) (λ e. inr (w.while_voting e))

    abbrev σ₂ : State ℕ
    σ₂ = do_abort σ x

    later_than : (s : ℕ) → c.serial < s → σ₂.history.phase (tx n s) ≡ fresh
    later_than s e = put_else σ.history.phase x aborted (tx n s) (later_tx n s c.serial e) ∙ w.later s e

    owner_finishing : Owner σ₂.history σ₂.votes σ₂.sent n (with_phase c finishing_phase 2 c.participants c.yes c.done c.rivals)
    owner_finishing = record {
      later = later_than;
      while_open = λ e. absurd (let z : ⊥ = omega arith in z);
      while_voting = λ e. absurd (let z : ⊥ = omega arith in z);
      when_committed = λ e f. absurd (let z : ⊥ = omega arith in z);
      when_aborted = λ e f. put_here Tx-discrete σ.history.phase x aborted;
      asked = w.asked;
      agreed = w.agreed;
      found = w.found;
    }

    ended : (b : Bool) → Owner σ₂.history σ₂.votes σ₂.sent n
        (cond b (idle_after c.serial c.timestamp 2) (with_phase c finishing_phase 2 c.participants c.yes c.done c.rivals))
    ended true = idle_owner σ₂.history σ₂.votes σ₂.sent n _ owner_finishing c.timestamp 2
    ended false = owner_finishing

    owner_aborted : Owner σ₂.history σ₂.votes σ₂.sent n (ended_aborted c)
    unfolding ended_aborted
    owner_aborted = ended (eqb (awaited c) 0)

    pub sim_aborted : (pool : List (List ℕ)) → ((b : List ℕ) → In b pool → In b st.pool) → Sim sane (with_it (ended_aborted c) pool) σ₂ l
    sim_aborted pool old = by_one st (with_it (ended_aborted c) pool) l sim (abort x can_abort) (reads_still st σ σ₂.history σ₂.chain sim.reads)
        (λ i t. refl) (λ i t. refl)
        (owners_after st σ σ₂ l sim n (ended_aborted c) (abort x can_abort)
        (λ y e. (put_else σ.history.phase x aborted y (λ f. e (ap (λ (u : Tx). u.owner) f)), refl)) owner_aborted)
        (λ b i. inl (old b i))

  -- ---- the last yes: every participant has given it
  module _ (from : ℕ) (rivals : List ℕ) (small : from < 16) (votes-now : c.phase ≡ voting_phase) (party : c.participants ≡ 0 → ⊥)
      (said : σ.votes.yes from x ≡ true) (all : within c.participants (joined c.yes (only from)) ≡ true) where
    every_yes : (i : ℕ) → contains c.participants i ≡ true → σ.votes.yes i x ≡ true
    every_yes i e =
        let z = T_true _ (within_contains c.participants (joined c.yes (only from)) (true-T _ all) i (true-T _ e)) in
        agreed_by c.yes i from small z (λ a. w.agreed i a) (λ a. ap (λ (k : ℕ). σ.votes.yes k x) a ∙ said)

    pub can_commit : CanCommit σ x
    can_commit = record {
      phase = w.while_voting votes-now;
      all_yes = λ i e. every_yes i (sym (ap (λ (k : Contents ℕ). k.participants i) (w.asked party)) ∙ e);
    }

    abbrev σ₃ : State ℕ
    σ₃ = do_commit σ x

    abbrev decided : Coordinator
    decided = with_phase c finishing_phase 1 c.participants (joined c.yes (only from)) c.done rivals

    owner_committed : Owner σ₃.history σ₃.votes σ₃.sent n decided
    owner_committed = record {
      later = λ s e. put_else σ.history.phase x committed (tx n s) (later_tx n s c.serial e) ∙ w.later s e;
      while_open = λ e. absurd (let z : ⊥ = omega arith in z);
      while_voting = λ e. absurd (let z : ⊥ = omega arith in z);
      when_committed = λ e f. put_here Tx-discrete σ.history.phase x committed;
      when_aborted = λ e f. absurd (let z : ⊥ = omega arith in z);
      asked = w.asked;
      agreed = λ i e. agreed_by c.yes i from small e (λ a. w.agreed i a) (λ a. ap (λ (k : ℕ). σ.votes.yes k x) a ∙ said);
      found = w.found;
    }

    pub sim_committed : (pool : List (List ℕ)) → ((b : List ℕ) → In b pool → In b st.pool) → Sim sane (with_it decided pool) σ₃ l
    sim_committed pool old = by_one st (with_it decided pool) l sim (commit x can_commit) (reads_still st σ σ₃.history σ₃.chain sim.reads)
        (λ i t. refl) (λ i t. refl)
        (owners_after st σ σ₃ l sim n decided (commit x can_commit)
        (λ y e. (put_else σ.history.phase x committed y (λ f. e (ap (λ (u : Tx). u.owner) f)), refl)) owner_committed)
        (λ b i. inl (old b i))
