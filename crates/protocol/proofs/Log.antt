-- The base's (a): found is what replay in the order of the root's first yes gives. (0) and (c) in that order rest on this file too.
-- The idea: the root is a participant of all. When it votes yes, no writer of what is touched is held there; so each earlier writer in the log
-- was settled, and if committed applied there; so what was found is the chain's end. And as long as a writer in the log is not settled at the
-- root, nobody who touches what it writes gets in behind it; so if it commits later, its entry is still the next one, also in the log's order.
use Rattle.std.specs.Prelude.{◌≡◌, refl, ◌≢◌, ◌⊎◌}
use Rattle.std.proofs.Math.Path.{sym, ap, subst}
use Rattle.std.proofs.Common.{◌∙◌, arith}
use Rattle.std.proofs.Math.Logic.{inl, inr, by_cases}
use mathlib.Core.List.{List, [], ◌∷◌, cons≢nil, head-eq_of_cons-eq, tail-eq_of_cons-eq}
use Rattle.std.proofs.Math.Bool.{true, false}
use Prim.Native.Nat.{ℕ, suc, ◌≤◌}
use Rattle.std.proofs.Math.Decide.{ℕ_discrete}
use Rattle.protocol.specs.Table.{pick, put, In, Suffix, AtMostOnce}
use Rattle.protocol.specs.Rules.{Object, root, Rules}
use Rattle.protocol.specs.State.{Tx, Tx-discrete, Phase, voting, committed, aborted, Contents, Votes, History, Chain, State, blank_state}
use Rattle.protocol.specs.State.{Writes, Touches}
use Rattle.protocol.specs.Chain.{extended}
use Rattle.protocol.specs.Replay.{replay, turn, last_value, given_to, committed?, committed_of}
use Rattle.protocol.specs.Transitions.{with_yes, with_applied, with_commit, CanYes, CanCommit}
use Rattle.protocol.specs.Transitions.{Step, ask, commit, abort, list, copy, vote_yes, vote_no, apply, drop, Run, start, next}
use Rattle.protocol.specs.Log.{RootInAll, logged, log, fed, BaseClaims}
use Rattle.protocol.specs.Invariant.{wrote, count, effect, Settled, Inv}
use Rattle.protocol.specs.Proof.Tables.{clash}
use Rattle.protocol.proofs.Tables.{on}
use Rattle.protocol.proofs.Lists.{suffix_whole, suffix_tail, in_suffix, in_front, count_ext, replay_ext, count_suffix}
use Rattle.protocol.proofs.Lists.{times_none, times_once, given_at_lem, not_committed, not_written}
use Rattle.protocol.proofs.Lists.{select_in, in_select, select_once, select_in_front, replay_committed_of}
use Rattle.protocol.proofs.AskAbort.{Moves, with_tx, moved_wrote, moved_settled, ask_moves, abort_moves}
use Rattle.protocol.proofs.Yes.{first_yes_lem, yes_cases, yes_stays, yes_new, writes_touches}
use Rattle.protocol.proofs.Commit
use Rattle.protocol.proofs.Commit.{length_cases, entry_cases, entry_stays, chain_end}
use Rattle.protocol.proofs.Apply
use Rattle.protocol.proofs.Runs.{run_ok}
use Rattle.protocol.proofs.Core.{decided_replay, committed_good}
use Rattle.protocol.specs.Proof.Log.{LogInv}

-- What a change leaves that the log does not read.
log_stays : {A : Type 0} (R : Rules A) (v v' : Votes) (h h' : History A) (c : Chain A) (l : List Tx) → LogInv R v h c l
    → ((x : Tx) → v'.yes root x ≡ v.yes root x)
    → ((x : Tx) → v.yes root x ≡ true → h'.contents x ≡ h.contents x)
    → ((x : Tx) (o : Object) → v.yes root x ≡ true → wrote h' x o ≡ wrote h x o)
    → ((x : Tx) → h.phase x ≡ aborted → h'.phase x ≡ aborted)
    → ((x : Tx) → Settled v h root x → Settled v' h' root x)
    → LogInv R v' h' c l
log_stays R v v' h h' c l g same-yes same_contents same_wrote still_aborted still_settled = record {
  l_in = λ x y. g.l_in x (sym (same-yes x) ∙ y);
  l_voted = λ x i. same-yes x ∙ g.l_voted x i;
  l_once = g.l_once;
  l_found = λ x m o s t a. let w = voted (x ∷ m) s in let wx = w x (inl refl) in
      rw (same_contents x wx, counts m o (λ y i. w y (inr i))) (g.l_found x m o s (touches x o wx t) (λ p. a (still_aborted x p)));
  l_lock = λ x m y o s i w t. let u = voted (x ∷ m) s in
      still_settled y (g.l_lock x m y o s i (rw (same_contents y (u y (inr i))) at w) (touches x o (u x (inl refl)) t));
  l_value = λ m o s. let w = voted m s in
      rw (counts m o w, replay_ext R.blank (effect h) (effect h') m o (λ y i b. rw (same_wrote y o (w y i), same_contents y (w y i)))) (g.l_value m o s);
  l_length = λ o. g.l_length o ∙ sym (counts l o g.l_voted);
}
  where
    voted : (m : List Tx) → Suffix m l → (x : Tx) → In x m → v.yes root x ≡ true
    voted m s x i = g.l_voted x (in_suffix x m l s i)

    touches : (x : Tx) (o : Object) → v.yes root x ≡ true → Touches h'.contents x o → Touches h.contents x o
    touches x o y t e = t (rw (same_contents x y) e)

    counts : (m : List Tx) (o : Object) → ((x : Tx) → In x m → v.yes root x ≡ true) → count (wrote h') m o ≡ count (wrote h) m o
    counts m o w = count_ext (wrote h) (wrote h') m o (λ x i. same_wrote x o (w x i))

pub blank_log : {A : Type 0} (R : Rules A) → LogInv R (blank_state R).votes (blank_state R).history (blank_state R).chain []
blank_log R = record {
  l_in = λ x v. absurd (clash (cc));
  l_voted = λ x i. absurd i;
  l_once = λ x m s i. cons≢nil s;
  l_found = λ x m o s t a. absurd (cons≢nil s);
  l_lock = λ x m y o s i w t. absurd (cons≢nil s);
  l_value = λ m o s. rw s;
  l_length = λ o. refl;
}

module _ {A : Type 0} (R : Rules A) (top : RootInAll R) where
  pub root_voted : (σ : State A) → Inv R σ → (x : Tx) → σ.history.phase x ≡ committed → σ.votes.yes root x ≡ true
  root_voted σ iv x p = iv.votes.v_all root x p (top (σ.history.contents x).participants (committed_good R σ iv x p))

  moved_log : (σ : State A) (p : Tx → Phase) (k : Tx → Contents A) (l : List Tx) → Inv R σ → Moves σ.history p k
      → LogInv R σ.votes σ.history σ.chain l → LogInv R σ.votes (with_tx σ.history p k) σ.chain l
  moved_log σ p k l iv m g = log_stays R σ.votes σ.votes σ.history (with_tx σ.history p k) σ.chain l g (λ x. refl)
      (λ x v. m.forward.f_contents x (iv.votes.v_asked root x v))
      (λ x o v. moved_wrote σ.history p k m x o (iv.votes.v_asked root x v))
      m.forward.f_aborted
      (moved_settled σ.history p k m σ.votes root)

  module _ (σ : State A) (x : Tx) (iv : Inv R σ) (l : List Tx) (g : LogInv R σ.votes σ.history σ.chain l) where
    abbrev h : History A
    h = σ.history

    abbrev k : Tx → Contents A
    k = σ.history.contents

    -- The root votes yes.
    module _ (can : CanYes R σ root x) where
      abbrev v' : Votes
      v' = with_yes σ.votes root x

      settled_before : (y : Tx) (o : Object) → σ.votes.yes root y ≡ true → Writes k y o → Touches k x o → Settled σ.votes h root y
      settled_before y o v w t = on (iv.votes.v_then root y v) (λ q. absurd (can.free o y (q, inl (w, t)))) (λ s. s)

      found_is_last : (o : Object) → Touches k x o → (k x).version o ≡ σ.chain.length o
      found_is_last o t = let le = (iv.chain.c_found x o t).0 in on (chain_end R h σ.chain iv.order o)
          (λ z. omega arith)
          (λ z. let y = z.0 in let p = z.1 in let w = z.2 in
          let a : σ.votes.applied root y ≡ true = on (settled_before y o (root_voted σ iv y p) w t) (λ e. absurd (clash (cc))) (λ u. u) in
          let b = iv.holds.h_applied root y o a w in let c = can.current o t in let d = z.3 in omega arith)

      not_wrote : (o : Object) → wrote h x o ≡ false
      not_wrote o = not_committed (h.phase x) ((k x).mode o) (λ p. first_yes_lem R σ root x can iv (root_voted σ iv x p))

      voted : (y : Tx) → In y (x ∷ l) → v'.yes root y ≡ true
      voted y (inl e) = yes_new R σ root x can iv root y (refl, e)
      voted y (inr i) = yes_stays R σ root x can iv root y (g.l_voted y i)

      once : (y : Tx) → AtMostOnce y (x ∷ l)
      once y m (inl e) i = first_yes_lem R σ root x can iv (g.l_voted x (rw (head-eq_of_cons-eq e, tail-eq_of_cons-eq e) at i))
      once y m (inr s) i = g.l_once y m s i

      found : (y : Tx) (m : List Tx) (o : Object) → Suffix (y ∷ m) (x ∷ l) → Touches k y o → h.phase y ≢ aborted → (k y).version o ≡ count (wrote h) m o
      found y m o (inl e) t a = let p = head-eq_of_cons-eq e in rw (p, tail-eq_of_cons-eq e) (found_is_last o (rw p at t) ∙ g.l_length o)
      found y m o (inr s) t a = g.l_found y m o s t a

      lock : (y : Tx) (m : List Tx) (z : Tx) (o : Object) → Suffix (y ∷ m) (x ∷ l) → In z m → Writes k z o → Touches k y o → Settled v' h root z
      lock y m z o (inl e) i w t = settled_before z o (g.l_voted z (rw (tail-eq_of_cons-eq e) at i)) w (rw (head-eq_of_cons-eq e) at t)
      lock y m z o (inr s) i w t = g.l_lock y m z o s i w t

      value_with_x : (m : List Tx) (o : Object) → Suffix m (x ∷ l) → σ.chain.entry o (count (wrote h) m o) ≡ replay R.blank (effect h) m o
      value_with_x m o (inl e) = rw (e, not_wrote o) (g.l_value l o (suffix_whole l))
      value_with_x m o (inr s) = g.l_value m o s

      yes_log : LogInv R v' h σ.chain (x ∷ l)
      yes_log = record {
        l_in = λ y v. on (yes_cases R σ root x can iv root y) (λ z. inl z.0.1) (λ z. inr (g.l_in y (sym z.1 ∙ v)));
        l_voted = voted;
        l_once = once;
        l_found = found;
        l_lock = lock;
        l_value = value_with_x;
        l_length = λ o. rw (not_wrote o) (g.l_length o);
      }

    -- The transaction commits: nobody behind it in the log touches what it writes.
    module _ (can : CanCommit σ x) where
      abbrev h' : History A
      h' = with_commit σ.history x

      abbrev c' : Chain A
      c' = extended (σ.history.contents x) σ.chain

      -- x stands in the list, and is the last writer of o there
      LastThere : Object → List Tx → Type 0
      LastThere o m = In x m × (count (wrote h') m o ≡ suc (σ.chain.length o)) × (replay R.blank (effect h') m o ≡ (k x).new o)

      last_at : (o : Object) → Writes k x o → (y : Tx) (m : List Tx) → Suffix (y ∷ m) l → y ≡ x → LastThere o (y ∷ m)
      unfolding LastThere
      last_at o w y m s e =
          let wy : Writes k y o = rw e w in
          let f = g.l_found y m o s (writes_touches k y o wy) (λ q. let r = Commit.was_voting R σ x can iv y e in clash (cc)) in
          let t : wrote h' y o ≡ true = rw (ap h'.phase e ∙ Commit.now_committed R σ x can iv, wy) in
          let n = Commit.count_same R σ x can iv m o (λ i u. g.l_once y m s (subst (λ a. In a m) (sym e) i)) in
          let v : (k y).version o ≡ σ.chain.length o = ap (λ a. (k a).version o) e ∙ Commit.written_is_last R σ x can iv o w in
          (inl (sym e), rw (t, n) (ap suc (sym f ∙ v)), rw t (ap (λ a. (k a).new o) e))

      -- of what x writes, an end of the log either has not x, or x is the last writer there
      last_or_absent : (o : Object) → Writes k x o → (m : List Tx) → Suffix m l → (In x m → ⊥) ⊎ LastThere o m
      unfolding LastThere
      last_or_absent o w [] s = inl (λ i. i)
      last_or_absent o w (y ∷ m) s = by_cases (Tx-discrete y x) (λ e. inr (last_at o w y m s e))
          (λ n. on (last_or_absent o w m (suffix_tail y m l s))
          (λ a. inl (λ i. on i (λ e. n (sym e)) a))
          (λ z. let f : wrote h' y o ≡ false = not_written (h'.phase y) ((k y).mode o)
          (λ u. Commit.unsettled R σ x can iv root (g.l_lock y m x o s z.0 w (writes_touches k y o u))) in
          inr (inr z.0, rw f z.1, rw f z.2)))

      value_committed : (m : List Tx) (o : Object) → Suffix m l → c'.entry o (count (wrote h') m o) ≡ replay R.blank (effect h') m o
      unfolding LastThere
      value_committed m o s =
          let le : count (wrote h) m o ≤ σ.chain.length o = rw (g.l_length o) (count_suffix (wrote h) m l o s) in
          let old : (In x m → Writes k x o → ⊥) → c'.entry o (count (wrote h') m o) ≡ replay R.blank (effect h') m o = λ a.
          rw (Commit.count_same R σ x can iv m o a, Commit.replay_same R σ x can iv m o a)
          (entry_stays (k x) σ.chain o (count (wrote h) m o) le ∙ g.l_value m o s) in
          on (length_cases (k x) σ.chain o)
          (λ w. on (last_or_absent o w.0 m s)
          (λ a. old (λ i u. a i))
          (λ z. on (entry_cases (k x) σ.chain o (count (wrote h') m o)) (λ y. y.1 ∙ sym z.2) (λ y. absurd (y.0 (w.0, z.1)))))
          (λ w. old (λ i u. w.0 u))

      x_voted : σ.votes.yes root x ≡ true
      x_voted = can.all_yes root (top (k x).participants (Commit.good_x R σ x can iv))

      length_committed : (o : Object) → c'.length o ≡ count (wrote h') l o
      unfolding LastThere
      length_committed o = on (length_cases (k x) σ.chain o)
          (λ w. on (last_or_absent o w.0 l (suffix_whole l)) (λ a. absurd (a (g.l_in x x_voted))) (λ z. w.1 ∙ sym z.1))
          (λ w. w.1 ∙ g.l_length o ∙ sym (Commit.count_same R σ x can iv l o (λ i u. w.0 u)))

      commit_log : LogInv R σ.votes h' c' l
      commit_log = record {
        l_in = g.l_in;
        l_voted = g.l_voted;
        l_once = g.l_once;
        l_found = λ y m o s t a. g.l_found y m o s t (λ p. a (Commit.still_aborted R σ x can iv y p))
            ∙ sym (Commit.count_same R σ x can iv m o (λ i w. Commit.unsettled R σ x can iv root (g.l_lock y m x o s i w t)));
        l_lock = λ y m z o s i w t. Commit.still_settled R σ x can iv root z (g.l_lock y m z o s i w t);
        l_value = value_committed;
        l_length = length_committed;
      }

  yes_any : (σ : State A) (n : ℕ) (x : Tx) → CanYes R σ n x → Inv R σ → (l : List Tx) → LogInv R σ.votes σ.history σ.chain l
      → (d : Dec (n ≡ root)) → LogInv R (with_yes σ.votes n x) σ.history σ.chain (pick d (x ∷ l) l)
  unfolding pick
  yes_any σ n x can iv l g (yes e) = subst (λ m. LogInv R (with_yes σ.votes m x) σ.history σ.chain (x ∷ l)) (sym e)
      (yes_log σ x iv l g (subst (λ m. CanYes R σ m x) e can))
  yes_any σ n x can iv l g (no e) = log_stays R σ.votes (with_yes σ.votes n x) σ.history σ.history σ.chain l g
      (λ y. on (yes_cases R σ n x can iv root y) (λ z. absurd (e (sym z.0.0))) (λ z. z.1)) (λ y v. refl) (λ y o v. refl) (λ y p. p) (λ y s. s)

  pub step_log : {σ σ' : State A} (s : Step R σ σ') → Inv R σ → (l : List Tx) → LogInv R σ.votes σ.history σ.chain l
      → LogInv R σ'.votes σ'.history σ'.chain (logged s l)
  step_log {σ = σ} (ask x c can) iv l g = let h = σ.history in
      moved_log σ (put Tx-discrete h.phase x voting) (put Tx-discrete h.contents x c) l iv (ask_moves R σ x c can) g
  step_log {σ = σ} (commit x can) iv l g = commit_log σ x iv l g can
  step_log {σ = σ} (abort x can) iv l g = let h = σ.history in
      moved_log σ (put Tx-discrete h.phase x aborted) h.contents l iv (abort_moves R σ x can) g
  step_log (list n x can) iv l g = g
  step_log (copy n o) iv l g = g
  step_log {σ = σ} (vote_yes n x can) iv l g = yes_any σ n x can iv l g (ℕ_discrete n root)
  step_log (vote_no n x can) iv l g = g
  step_log {σ = σ} (apply n x can) iv l g = log_stays R σ.votes (with_applied σ.votes n x) σ.history σ.history σ.chain l g
      (λ y. refl) (λ y v. refl) (λ y o v. refl) (λ y p. p) (Apply.still_settled R σ n x can iv root)
  step_log (drop n x can) iv l g = g

  pub run_log : {σ : State A} (r : Run R σ) → LogInv R σ.votes σ.history σ.chain (log r)
  run_log start = blank_log R
  run_log (next r s) = step_log s (run_ok r) (log r) (run_log r)

  -- The claims.
  module _ (σ : State A) (iv : Inv R σ) (l : List Tx) (g : LogInv R σ.votes σ.history σ.chain l) where
    pub serial_before_in_log : (x : Tx) (m : List Tx) (o : Object) → Suffix (x ∷ m) l → σ.history.phase x ≡ committed → Touches σ.history.contents x o
        → (σ.history.contents x).found o ≡ last_value R σ.history.contents (committed_of σ.history m) o
    serial_before_in_log x m o s p t = (iv.chain.c_found x o t).1 ∙ ap (σ.chain.entry o) (g.l_found x m o s t (λ a. clash (cc)))
        ∙ g.l_value m o (suffix_tail x m l s) ∙ replay_committed_of σ.history R.blank m o

    in_log : (x : Tx) → σ.history.phase x ≡ committed → In x l
    in_log x p = g.l_in x (root_voted σ iv x p)

    fed_serial : (x : Tx) (o : Object) → σ.history.phase x ≡ committed → Touches σ.history.contents x o
        → (σ.history.contents x).found o ≡ given_to R σ.history.contents x (fed σ l) o
    fed_serial x o p t = let z = in_front x l (in_log x p) in serial_before_in_log x z.0 o z.1 p t
        ∙ sym (given_at_lem Tx-discrete R.blank (turn σ.history.contents) x (fed σ l) (committed_of σ.history z.0) o
        (select_in_front (committed? σ.history) x z.0 l p z.1) (select_once (committed? σ.history) x l (g.l_once x)))

    -- both replays end at the chain's end
    fed_last : (o : Object) → last_value R σ.history.contents (fed σ l) o ≡ last_value R σ.history.contents σ.history.decisions o
    fed_last o = let d = σ.history.decisions in sym (replay_committed_of σ.history R.blank l o) ∙ sym (g.l_value l o (suffix_whole l))
        ∙ ap (σ.chain.entry o) (sym (g.l_length o) ∙ iv.order.o_length o) ∙ iv.order.o_value d o (suffix_whole d)
        ∙ decided_replay R σ iv d o (suffix_whole d)

    pub base_claims : BaseClaims R σ l
    base_claims = record {
      logged_once = λ x p. times_once Tx-discrete x l (in_log x p) (g.l_once x);
      fed_once = λ x p. let d = committed? σ.history in
          times_once Tx-discrete x (fed σ l) (select_in d l x p (in_log x p)) (select_once d x l (g.l_once x));
      fed_only = λ x a. times_none Tx-discrete x (fed σ l) (λ i. a (in_select (committed? σ.history) l x i).1);
      serial = fed_serial;
      last = fed_last;
    }
