-- What never goes back along the transitions: phases, contents once asked, votes, applications, decisions, copies sent, entries, and a serial
-- that is late at a node. Each transition puts one value into one table, at a place where it takes nothing back.
use Rattle.std.specs.Prelude.{◌≡◌, refl, ◌⊎◌, true, ℕ, ◌<◌}
use Rattle.std.proofs.Common.{◌∙◌, inl, inr, arith}
use Rattle.std.proofs.Math.Decide.{ℕ_discrete}
use Rattle.protocol.specs.Rules.{Node, Object, Rules}
use Rattle.protocol.specs.State.{Tx, Tx-discrete, Phase, fresh, voting, committed, aborted}
use Rattle.protocol.specs.State.{OwnerState, over, listed, held, refused, Ends, Store, Votes, History, Chain, State, Held}
use Rattle.protocol.specs.Chain.{extended, Entry}
use Rattle.protocol.specs.Transitions.{by_coordinator, by_replica, with_asked, with_commit, with_abort, with_state, with_last, with_yes, with_applied, stored}
use Rattle.protocol.specs.Transitions.{Step, ask, commit, abort, list, copy, vote_yes, vote_no, apply, drop}
use Rattle.protocol.specs.Proof.Tables.{clash}
use Rattle.protocol.proofs.Tables.{on, mark_stays}
use Rattle.protocol.proofs.Lists.{suffix_whole, suffix_trans}
use Rattle.protocol.specs.Proof.AskAbort.{Forward}
use Rattle.protocol.proofs.AskAbort.{ask_moves, abort_moves}
use Rattle.protocol.proofs.ListNoDropCopy.{state_cases, last_cases}
use Rattle.protocol.proofs.Commit.{commit_forward, still_entry}
use Rattle.protocol.specs.Refine.Growth.{Late, Grows, MayBecome}

pub late_not_held : (e : Ends) (n : Node) (x : Tx) → Late e n x → Held e n x → ⊥
late_not_held e n x l h = on l (λ k. omega (arith, h.0)) (λ k. let p = k.1 in let q = h.1 in clash (cc))

pub never_back : {A : Type 0} {h h' : History A} → Forward h h' → (x : Tx) → MayBecome (h.phase x) (h'.phase x)
never_back {h = h} {h' = h'} g x = go (h.phase x) refl
  where
    go : (p : Phase) → h.phase x ≡ p → MayBecome p (h'.phase x)
    go fresh e = tt
    go voting e = g.f_asked x (λ f. clash (cc))
    go committed e = g.f_committed x e
    go aborted e = g.f_aborted x e

pub history_same : {A : Type 0} (h : History A) → Forward h h
history_same h = record {
  f_asked = λ x p. p;
  f_contents = λ x p. refl;
  f_committed = λ x p. p;
  f_aborted = λ x p. p;
  f_decisions = suffix_whole h.decisions;
}

pub grows_then : {A : Type 0} {σ σ' τ : State A} → Grows σ σ' → Grows σ' τ → Grows σ τ
grows_then {σ = σ} {σ' = σ'} {τ = τ} a b = let f = a.g_history in let g = b.g_history in record {
  g_history = record {
    f_asked = λ x p. g.f_asked x (f.f_asked x p);
    f_contents = λ x p. g.f_contents x (f.f_asked x p) ∙ f.f_contents x p;
    f_committed = λ x p. g.f_committed x (f.f_committed x p);
    f_aborted = λ x p. g.f_aborted x (f.f_aborted x p);
    f_decisions = suffix_trans σ.history.decisions σ'.history.decisions τ.history.decisions f.f_decisions g.f_decisions;
  };
  g_yes = λ n x v. b.g_yes n x (a.g_yes n x v);
  g_applied = λ n x v. b.g_applied n x (a.g_applied n x v);
  g_sent = λ c i. b.g_sent c (a.g_sent c i);
  g_late = λ n x l. b.g_late n x (a.g_late n x l);
  g_entry = λ o i v e. b.g_entry o i v (a.g_entry o i v e);
}

-- A coordinator changes something; a replica does.
pub by_coordinator_lem : {A : Type 0} (σ : State A) (h : History A) (c : Chain A) → Forward σ.history h
    → ((o : Object) (i : ℕ) (a : A) → Entry σ.chain o i a → Entry c o i a)
    → Grows σ (by_coordinator σ h c)
by_coordinator_lem σ h c g f = record { g_history = g; g_yes = λ n x v. v; g_applied = λ n x v. v; g_sent = λ c i. i; g_late = λ n x l. l; g_entry = f }

pub by_replica_lem : {A : Type 0} (σ : State A) (s : Store A) (e : Ends) (v : Votes)
    → ((n : Node) (x : Tx) → Late σ.ends n x → Late e n x)
    → ((n : Node) (x : Tx) → σ.votes.yes n x ≡ true → v.yes n x ≡ true)
    → ((n : Node) (x : Tx) → σ.votes.applied n x ≡ true → v.applied n x ≡ true)
    → Grows σ (by_replica σ s e v)
by_replica_lem σ s e v late y a = record {
  g_history = history_same σ.history;
  g_yes = y;
  g_applied = a;
  g_sent = λ c i. i;
  g_late = late;
  g_entry = λ o i a e. e;
}

pub grows_same : {A : Type 0} (σ : State A) → Grows σ σ
grows_same σ = by_coordinator_lem σ σ.history σ.chain (history_same σ.history) (λ o i a e. e)

-- A new state of an owner leaves late what is late, if it was not over or stays so.
state_late : (e : Ends) (n w : Node) (s : OwnerState) → (e.state n w ≡ over → s ≡ over) → (m : Node) (y : Tx) → Late e m y → Late (with_state e n w s) m y
state_late e n w s a m y l = on l (λ q. inl q)
    (λ q. on (state_cases e n w s m y.owner)
    (λ z. let b = z.0.0 in let c = z.0.1 in let p = q.1 in let r : e.state n w ≡ over = cc in inr (q.0, z.1 ∙ a r))
    (λ z. inr (q.0, z.1 ∙ q.1)))

-- So does a new last serial, if it rises, or stays and is over.
last_late : (e : Ends) (n : Node) (x : Tx) (s : OwnerState) → ((e.last n x.owner ≡ x.serial) × (s ≡ over)) ⊎ (e.last n x.owner < x.serial)
    → (m : Node) (y : Tx) → Late e m y → Late (with_last e n x s) m y
last_late e n x s how m y l = on (last_cases e n x s m y.owner)
    (λ z. let a = z.0.0 in let b = z.0.1 in let r : e.last m y.owner ≡ e.last n x.owner = cc in let u = z.1 in
    on how
    (λ g. let g0 = g.0 in on l (λ j. inl (omega arith)) (λ j. let j0 = j.0 in inr (omega arith, z.2 ∙ g.1)))
    (λ g. on l (λ j. inl (omega arith)) (λ j. let j0 = j.0 in inl (omega arith))))
    (λ z. on l (λ j. inl (rw z.1 j)) (λ j. inr (z.1 ∙ j.0, z.2 ∙ j.1)))

pub step_grows : {A : Type 0} {R : Rules A} {σ σ' : State A} → Step R σ σ' → Grows σ σ'
step_grows {R = R} {σ = σ} (ask x c g) = by_coordinator_lem σ (with_asked σ.history x c) σ.chain (ask_moves R σ x c g).forward (λ o i a e. e)
step_grows {σ = σ} (commit x g) = let h = σ.history in let c = h.contents x in
    by_coordinator_lem σ (with_commit h x) (extended c σ.chain) (commit_forward h x g.phase) (still_entry c σ.chain)
step_grows {R = R} {σ = σ} (abort x g) = by_coordinator_lem σ (with_abort σ.history x) σ.chain (abort_moves R σ x g).forward (λ o i a e. e)
step_grows {σ = σ} (list n x g) = by_replica_lem σ σ.store (with_last σ.ends n x listed) σ.votes
    (last_late σ.ends n x listed (inr g.above)) (λ m y v. v) (λ m y v. v)
step_grows {σ = σ} (copy n o) = record {
  g_history = history_same σ.history;
  g_yes = λ n x v. v;
  g_applied = λ n x v. v;
  g_sent = λ c i. inr i;
  g_late = λ n x l. l;
  g_entry = λ o i a e. e;
}
step_grows {σ = σ} (vote_yes n x g) = by_replica_lem σ σ.store (with_state σ.ends n x.owner held) (with_yes σ.votes n x)
    (state_late σ.ends n x.owner held (λ e. let s = g.listed in absurd (clash (cc))))
    (mark_stays ℕ_discrete Tx-discrete σ.votes.yes n x)
    (λ m y v. v)
step_grows {σ = σ} (vote_no n x g) = by_replica_lem σ σ.store (with_state σ.ends n x.owner refused) σ.votes
    (state_late σ.ends n x.owner refused (λ e. absurd (clash (cc)))) (λ m y v. v) (λ m y v. v)
step_grows {σ = σ} (apply n x g) = let s = stored σ.store (σ.history.contents x) n in
    by_replica_lem σ s (with_state σ.ends n x.owner over) (with_applied σ.votes n x)
    (state_late σ.ends n x.owner over (λ e. refl)) (λ m y v. v) (mark_stays ℕ_discrete Tx-discrete σ.votes.applied n x)
step_grows {σ = σ} (drop n x g) = by_replica_lem σ σ.store (with_last σ.ends n x over) σ.votes
    (last_late σ.ends n x over (on g.fits (λ e. inl (e, refl)) (λ e. inr e.0))) (λ m y v. v) (λ m y v. v)
