-- What a run leaves at rest, every owner over at every node, can be brought along: its committed transactions in the order of the root's first yes
-- become the decisions, only they keep their contents, and all others are given up.
use Rattle.std.specs.Prelude.{◌≡◌, refl, ◌≢◌, ◌⊎◌, List, [], ◌∷◌, Bool, true, false, cond, ℕ, zero, suc, ◌≤◌}
use Rattle.std.proofs.Common.{sym, ◌∙◌, ap, subst, inl, inr, arith}
use Rattle.std.proofs.Math.Logic.{by_cases}
use Rattle.std.proofs.Math.Decide.{ℕ_discrete}
use Rattle.protocol.specs.Table.{Suffix}
use Rattle.protocol.specs.Rules.{Node, Object, Rules}
use Rattle.protocol.specs.State.{Tx, committed, aborted, over, Contents, nothing, History, State, Touches}
use Rattle.protocol.specs.Replay.{replay, committed?, committed_of}
use Rattle.protocol.specs.Log.{RootInAll, fed}
use Rattle.protocol.specs.Invariant.{wrote, count, effect, Inv}
use Rattle.protocol.specs.Proof.Tables.{clash}
use Rattle.protocol.proofs.Tables.{on, pick_cases}
use Rattle.protocol.proofs.Lists.{suffix_tail, count_ext, replay_ext}
use Rattle.protocol.proofs.Lists.{select_in, in_select, select_once, in_front_of_select, not_committed}
use Rattle.protocol.specs.Proof.Log.{LogInv}
use Rattle.protocol.proofs.Log.{root_voted}
use Rattle.protocol.proofs.Core.{committed_good}
use Rattle.protocol.proofs.Refine.Convert.{count_committed_of, replay_committed, committed_of_end}
use Rattle.protocol.specs.Refine.Origin.{held_in, Brought}
use Rattle.protocol.proofs.Refine.Origin.{values_end, values_last}
use Rattle.protocol.specs.Refine.Rest.{earlier}

at_most_or_above : (a b : ℕ) → (a ≤ b) ⊎ (suc b ≤ a)
at_most_or_above zero b = inl (omega arith)
at_most_or_above (suc a) zero = inr (omega arith)
at_most_or_above (suc a) (suc b) = on (at_most_or_above a b) (λ q. inl (omega (arith, q))) (λ q. inr (omega (arith, q)))

pub below : (v c : ℕ) → (v ≡ suc c → ⊥) → v ≤ suc c → v ≤ c
below v c n le = on (at_most_or_above v c) (λ q. q) (λ q. absurd (n (omega (arith, q, le))))

module _ {A : Type 0} (R : Rules A) (top : RootInAll R) (σ : State A) (l : List Tx) (iv : Inv R σ)
    (g : LogInv R σ.votes σ.history σ.chain l) (rest : (n w : Node) → σ.ends.state n w ≡ over) where
  abbrev h : History A
  h = σ.history

  abbrev h' : History A
  h' = earlier R σ l

  abbrev new' : Tx → Object → A
  new' x = (h'.contents x).new

  same_phase : (x : Tx) → h.phase x ≡ committed → h'.phase x ≡ committed
  same_phase x p = on (pick_cases (committed? h x) committed aborted) (λ z. z.1) (λ z. absurd (z.0 p))

  was_committed : (x : Tx) → h'.phase x ≡ committed → h.phase x ≡ committed
  was_committed x p = on (pick_cases (committed? h x) committed aborted) (λ z. z.0) (λ z. let q = z.1 in absurd (clash (cc)))

  pub same_contents : (x : Tx) → h.phase x ≡ committed → h'.contents x ≡ h.contents x
  same_contents x p = on (pick_cases (committed? h x) (h.contents x) (nothing R.blank)) (λ z. z.1) (λ z. absurd (z.0 p))

  no_contents : (x : Tx) → h.phase x ≢ committed → h'.contents x ≡ nothing R.blank
  no_contents x p = on (pick_cases (committed? h x) (h.contents x) (nothing R.blank)) (λ z. absurd (p z.0)) (λ z. z.1)

  pub same_wrote : (x : Tx) (o : Object) → wrote h' x o ≡ wrote h x o
  same_wrote x o = by_cases (committed? h x)
      (λ p. rw (same_phase x p, same_contents x p, p) refl)
      (λ p. not_committed (h'.phase x) ((h'.contents x).mode o) (λ q. p (was_committed x q)) ∙ sym (not_committed (h.phase x) ((h.contents x).mode o) p))

  counts : (m : List Tx) (o : Object) → count (wrote h') m o ≡ count (wrote h) m o
  counts m o = count_ext (wrote h) (wrote h') m o (λ x i. same_wrote x o)

  same_effect : (x : Tx) (o : Object) (a : A) → effect h' x o a ≡ effect h x o a
  same_effect x o a = ap (λ (b : Bool). cond b ((h'.contents x).new o) a) (same_wrote x o) ∙ by_cases (committed? h x)
      (λ p. ap (λ (c : Contents A). cond (wrote h x o) (c.new o) a) (same_contents x p))
      (λ p. let e = not_committed (h.phase x) ((h.contents x).mode o) p in
      ap (λ (b : Bool). cond b ((h'.contents x).new o) a) e ∙ sym (ap (λ (b : Bool). cond b ((h.contents x).new o) a) e))

  replays : (m : List Tx) (o : Object) → replay R.blank (effect h') m o ≡ replay R.blank (effect h) m o
  replays m o = replay_ext R.blank (effect h) (effect h') m o (λ x i a. same_effect x o a)

  touched : (x : Tx) (o : Object) → Touches h'.contents x o → (h.phase x ≡ committed) × Touches h.contents x o
  touched x o t = on (pick_cases (committed? h x) (h.contents x) (nothing R.blank))
      (λ z. (z.0, λ e. t (ap (λ (c : Contents A). c.mode o) z.1 ∙ e)))
      (λ z. absurd (t (ap (λ (c : Contents A). c.mode o) z.1)))

  -- the log in front of a committed one: what it found
  in_log : (x : Tx) (m : List Tx) → Suffix (x ∷ m) (fed σ l) → (k : List Tx) × Suffix (x ∷ k) l × (m ≡ committed_of h k)
  in_log x m s = in_front_of_select (committed? h) x m l s

  version_is : (x : Tx) (m : List Tx) (o : Object) → Suffix (x ∷ m) (fed σ l) → Touches h'.contents x o → (h'.contents x).version o ≡ count (wrote h') m o
  version_is x m o s t = let e = in_log x m s in let p = touched x o t in
      ap (λ (c : Contents A). c.version o) (same_contents x p.0) ∙ g.l_found x e.0 o e.1 p.1 (λ a. let q = p.0 in clash (cc))
      ∙ sym (counts m o ∙ ap (λ (u : List Tx). count (wrote h) u o) e.2 ∙ count_committed_of h e.0 o)

  found_is : (x : Tx) (m : List Tx) (o : Object) → Suffix (x ∷ m) (fed σ l) → Touches h'.contents x o
      → (h'.contents x).found o ≡ replay R.blank (effect h') m o
  found_is x m o s t = let e = in_log x m s in let p = touched x o t in
      ap (λ (c : Contents A). c.found o) (same_contents x p.0) ∙ (iv.chain.c_found x o p.1).1
      ∙ ap (σ.chain.entry o) (g.l_found x e.0 o e.1 p.1 (λ a. let q = p.0 in clash (cc)))
      ∙ g.l_value e.0 o (suffix_tail x e.0 l e.1) ∙ sym (replays m o ∙ ap (λ (u : List Tx). replay R.blank (effect h) u o) e.2
      ∙ replay_committed h R.blank e.0 o)

  abbrev one_more : List Tx → Object → Bool → ℕ
  one_more m o b = cond b (suc (count (wrote h') m o)) (count (wrote h') m o)

  -- a number of writers is that of some end of the list
  end_with : (m : List Tx) (o : Object) (v : ℕ) → v ≤ count (wrote h') m o → (k : List Tx) × Suffix k m × (count (wrote h') k o ≡ v)
  end_with [] o v le = ([], refl, omega (arith, le))
  end_with (x ∷ m) o v le = by (wrote h' x o) refl (end_with m o v)
    where
      by : (b : Bool) → wrote h' x o ≡ b → (v ≤ count (wrote h') m o → (k : List Tx) × Suffix k m × (count (wrote h') k o ≡ v))
          → (k : List Tx) × Suffix k (x ∷ m) × (count (wrote h') k o ≡ v)
      by false e ih =
          let c : count (wrote h') (x ∷ m) o ≡ count (wrote h') m o = ap (one_more m o) e in
          let z = ih (omega (arith, le, c)) in (z.0, inr z.1, z.2)
      by true e ih =
          let c : count (wrote h') (x ∷ m) o ≡ suc (count (wrote h') m o) = ap (one_more m o) e in
          by_cases (ℕ_discrete v (suc (count (wrote h') m o))) (λ q. (x ∷ m, inl refl, c ∙ sym q))
          (λ q. let z = ih (below v (count (wrote h') m o) q (omega (arith, le, c))) in (z.0, inr z.1, z.2))

  -- after an end of the list the chain has what its writers left
  entry_is : (m : List Tx) (o : Object) → Suffix m (fed σ l) → σ.chain.entry o (count (wrote h') m o) ≡ held_in R h' (fed σ l) o (count (wrote h') m o)
  entry_is m o s =
      let k = committed_of_end h m l s in
      ap (σ.chain.entry o) (counts m o ∙ ap (λ (u : List Tx). count (wrote h) u o) k.2 ∙ count_committed_of h k.0 o) ∙ g.l_value k.0 o k.1
      ∙ sym (replays m o ∙ ap (λ (u : List Tx). replay R.blank (effect h) u o) k.2 ∙ replay_committed h R.blank k.0 o)
      ∙ sym (values_end (wrote h') new' R.blank m (fed σ l) o (count (wrote h') m o) s (omega arith) ∙ values_last (wrote h') new' R.blank m o)

  copy_is : (n : Node) (o : Object) → (σ.store.version n o ≤ count (wrote h') (fed σ l) o)
      × (σ.store.value n o ≡ held_in R h' (fed σ l) o (σ.store.version n o))
  copy_is n o =
      let c = iv.chain.c_copy n o in
      let len : σ.chain.length o ≡ count (wrote h') (fed σ l) o = g.l_length o ∙ sym (counts (fed σ l) o ∙ count_committed_of h l o) in
      let le : σ.store.version n o ≤ count (wrote h') (fed σ l) o = omega (arith, c.0, len) in
      let z = end_with (fed σ l) o (σ.store.version n o) le in
      (le, c.1 ∙ subst (λ (v : ℕ). σ.chain.entry o v ≡ held_in R h' (fed σ l) o v) z.2 (entry_is z.0 o z.1))

  applied_at : (n : Node) (x : Tx) → h.phase x ≡ committed → (h.contents x).participants n ≡ true → σ.votes.applied n x ≡ true
  applied_at n x p q = on (iv.votes.v_then n x (iv.votes.v_all n x p q))
      (λ z. let a = z.1 in let b = rest n x.owner in absurd (clash (cc))) (λ z. on z (λ a. absurd (clash (cc))) (λ a. a))

  named : (n : Node) (x : Tx) → h.phase x ≡ committed → (h'.contents x).participants n ≡ true → (h.contents x).participants n ≡ true
  named n x p q = ap (λ (c : Contents A). c.participants n) (sym (same_contents x p)) ∙ q

  -- what a run leaves at rest is brought along
  pub rest_brought : Brought R σ.store σ.ends h'
  rest_brought = record {
    b_committed = λ x i. same_phase x (in_select (committed? h) l x i).1;
    b_decided = λ x p. let q = was_committed x p in select_in (committed? h) l x q (g.l_in x (root_voted R top σ iv x q));
    b_once = λ x m s i. select_once (committed? h) x l (g.l_once x) m s i;
    b_good = λ x p. let q = was_committed x p in
        subst (λ (c : Contents A). R.Good c.participants) (sym (same_contents x q)) (committed_good R σ iv x q);
    b_over = λ x p. on (pick_cases (committed? h x) committed aborted) (λ z. inl z.1) (λ z. inr z.1);
    b_unused = λ x o p. ap (λ (c : Contents A). c.mode o) (no_contents x (λ q. p (same_phase x q)));
    b_version = version_is;
    b_found = found_is;
    b_copy = copy_is;
    b_stored = λ n x o p q w. let u = was_committed x p in let e = same_contents x u in
        let a = iv.holds.h_applied n x o (applied_at n x u (named n x u q)) (ap (λ (c : Contents A). c.mode o) (sym e) ∙ w) in
        subst (λ (c : Contents A). suc (c.version o) ≤ σ.store.version n o) (sym e) a;
    b_last = λ n x p q. let u = was_committed x p in (iv.votes.v_late n x (iv.votes.v_all n x u (named n x u q))).0;
    b_rest = rest;
  }
