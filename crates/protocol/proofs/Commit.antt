-- COMMIT keeps the invariant. The key lemma: at the decision, what the transaction keeps was found at the chain's end. For the last writer
-- was decided with the yes of all its participants, and one of them, n, is a participant here too. There the last writer is no longer held,
-- since this one is held; so it was applied there, and its version is at most the one found. So the chain grows by one entry, in its place.
use Rattle.std.specs.Prelude.{◌≡◌, refl, ◌≢◌, ◌⊎◌, true, false, cond, ℕ, suc, ◌≤◌}
use Rattle.std.proofs.Common.{sym, ◌∙◌, ap, subst, inl, inr, arith}
use mathlib.Core.List.{List, [], ◌∷◌, head-eq_of_cons-eq, tail-eq_of_cons-eq}
use Rattle.std.proofs.Math.Decide.{ℕ_discrete}
use Rattle.protocol.specs.Table.{both, In, Suffix, AtMostOnce}
use Rattle.protocol.specs.Rules.{Node, Object, Common, Mode, unused, read, write, Rules}
use Rattle.protocol.specs.State.{Tx, Tx-discrete, Phase, fresh, voting, committed, aborted, Contents, Ends, Votes, History, Chain, State}
use Rattle.protocol.specs.State.{Writes, Keeps, writes?, Held}
use Rattle.protocol.specs.Chain.{extended, Entry}
use Rattle.protocol.specs.Replay.{replay}
use Rattle.protocol.specs.Transitions.{with_commit, do_commit, CanCommit}
use Rattle.protocol.specs.Claims.{Sourced}
use Rattle.protocol.specs.Invariant.{committed_write, wrote, count, effect, Settled, VotesInv, ChainInv, OrderInv, Inv}
use Rattle.protocol.specs.Proof.Tables.{clash}
use Rattle.protocol.proofs.Tables.{on, Changed, pick_cases, put_cases}
use Rattle.protocol.specs.Proof.AskAbort.{Forward}
use Rattle.protocol.proofs.Lists.{suffix_whole, suffix_tail, in_suffix, count_ext, replay_ext, count_suffix, not_written}

pub keeps_what_it_writes : {A : Type 0} (R : Rules A) (k : Tx → Contents A) (x : Tx) (o : Object) → Writes k x o → Keeps R k x o
keeps_what_it_writes R k x o w = subst R.Keeps (sym w) R.keeps_write

-- Whose votes were asked for, and who is not aborted, has participants as they must be.
pub good_participants : {A : Type 0} (R : Rules A) (e : Ends) (v : Votes) (h : History A) → VotesInv R e v h
    → (x : Tx) → h.phase x ≢ fresh → h.phase x ≢ aborted → R.Good (h.contents x).participants
good_participants R e v h i x asked alive = on (i.v_good x asked) (λ g. g) (λ a. absurd (alive a))

pub commit_forward : {A : Type 0} (h : History A) (x : Tx) → h.phase x ≡ voting → Forward h (with_commit h x)
commit_forward h x p = record {
  f_asked = λ y a e. on (put_cases Tx-discrete h.phase x committed y) (λ z. clash (cc)) (λ z. a (sym z.1 ∙ e));
  f_contents = λ y a. refl;
  f_committed = λ y q. on (put_cases Tx-discrete h.phase x committed y) (λ z. z.1) (λ z. z.1 ∙ q);
  f_aborted = λ y q. on (put_cases Tx-discrete h.phase x committed y) (λ z. let r = ap h.phase z.0 ∙ p in absurd (clash (cc))) (λ z. z.1 ∙ q);
  f_decisions = inr (suffix_whole h.decisions);
}

-- A chain that a commit lengthens: its entries stay, and the new one stands behind them.
module _ {A : Type 0} (c : Contents A) (l : Chain A) where
  pub length_cases : (o : Object) → Changed (c.mode o ≡ write) ((extended c l).length o) (suc (l.length o)) (l.length o)
  length_cases o = pick_cases (writes? c o) (suc (l.length o)) (l.length o)

  pub entry_cases : (o : Object) (i : ℕ) → Changed ((c.mode o ≡ write) × (i ≡ suc (l.length o))) ((extended c l).entry o i) (c.new o) (l.entry o i)
  entry_cases o i = pick_cases (both (writes? c o) (ℕ_discrete i (suc (l.length o)))) (c.new o) (l.entry o i)

  pub entry_stays : (o : Object) (i : ℕ) → i ≤ l.length o → (extended c l).entry o i ≡ l.entry o i
  entry_stays o i q = on (entry_cases o i) (λ z. absurd (omega (arith, z.0.1))) (λ z. z.1)

  pub still_entry : (o : Object) (i : ℕ) (a : A) → Entry l o i a → Entry (extended c l) o i a
  still_entry o i a e = (on (length_cases o) (λ z. omega (arith, z.1, e.0)) (λ z. omega (arith, z.1, e.0)), e.1 ∙ sym (entry_stays o i e.0))

-- The last committed writer of an object in a list, and how many were before it.
LastWriter : {A : Type 0} → History A → List Tx → Object → ℕ → Type 0
LastWriter h l o i = (x : Tx) × (m : List Tx) × Suffix (x ∷ m) l × (h.phase x ≡ committed) × Writes h.contents x o × (i ≡ suc (count (wrote h) m o))

last_writer_lem : {A : Type 0} (h : History A) (l : List Tx) (o : Object) → (count (wrote h) l o ≡ 0) ⊎ LastWriter h l o (count (wrote h) l o)
unfolding LastWriter
last_writer_lem h [] o = inl refl
last_writer_lem h (x ∷ l) o = go (h.phase x) refl ((h.contents x).mode o) refl (last_writer_lem h l o)
  where
    older : (count (wrote h) l o ≡ 0) ⊎ LastWriter h l o (count (wrote h) l o) → (count (wrote h) l o ≡ 0) ⊎ LastWriter h (x ∷ l) o (count (wrote h) l o)
    older (inl e) = inl e
    older (inr z) = inr (z.0, z.1, inr z.2, z.3, z.4, z.5)

    go : (p : Phase) → h.phase x ≡ p → (m : Mode) → (h.contents x).mode o ≡ m → (count (wrote h) l o ≡ 0) ⊎ LastWriter h l o (count (wrote h) l o)
        → (cond (committed_write p m) (suc (count (wrote h) l o)) (count (wrote h) l o) ≡ 0)
        ⊎ LastWriter h (x ∷ l) o (cond (committed_write p m) (suc (count (wrote h) l o)) (count (wrote h) l o))
    go fresh e m f r = older r
    go voting e m f r = older r
    go aborted e m f r = older r
    go committed e unused f r = older r
    go committed e read f r = older r
    go committed e write f r = inr (x, l, inl refl, e, f, refl)

-- The chain's last entry is blank, or a committed writer's.
pub chain_end : {A : Type 0} (R : Rules A) (h : History A) (l : Chain A) → OrderInv R h l → (o : Object)
    → (l.length o ≡ 0) ⊎ ((x : Tx) × (h.phase x ≡ committed) × Writes h.contents x o × (suc ((h.contents x).version o) ≡ l.length o))
unfolding LastWriter
chain_end R h l d o = on (last_writer_lem h h.decisions o)
    (λ z. inl (d.o_length o ∙ z))
    (λ z. let x = z.0 in let f = d.o_found x z.1 o z.2 (keeps_what_it_writes R h.contents x o z.4) in
    inr (x, z.3, z.4, ap suc f ∙ sym z.5 ∙ sym (d.o_length o)))

module _ {A : Type 0} (R : Rules A) (σ : State A) (x : Tx) (can : CanCommit σ x) (iv : Inv R σ) where
  abbrev h : History A
  h = σ.history

  abbrev k : Tx → Contents A
  k = σ.history.contents

  abbrev l : Chain A
  l = σ.chain

  abbrev h' : History A
  h' = with_commit σ.history x

  abbrev l' : Chain A
  l' = extended (σ.history.contents x) σ.chain

  -- What changes: x's phase, and the chains of what x writes.

  pub phase_cases : (y : Tx) → Changed (y ≡ x) (h'.phase y) committed (h.phase y)
  phase_cases y = put_cases Tx-discrete h.phase x committed y

  pub was_voting : (y : Tx) → y ≡ x → h.phase y ≡ voting
  was_voting y e = ap h.phase e ∙ can.phase

  pub now_committed : h'.phase x ≡ committed
  now_committed = on (phase_cases x) (λ z. z.1) (λ z. absurd (z.0 refl))

  still_committed : (y : Tx) → h.phase y ≡ committed → h'.phase y ≡ committed
  still_committed y p = (commit_forward h x can.phase).f_committed y p

  pub still_aborted : (y : Tx) → h.phase y ≡ aborted → h'.phase y ≡ aborted
  still_aborted y p = (commit_forward h x can.phase).f_aborted y p

  -- The key lemma: where the last writer's participants meet x's, it was applied before x was held.

  pub unsettled : (n : Node) → Settled σ.votes h n x → ⊥
  unsettled n s = let p = can.phase in on s (λ e. clash (cc)) (λ a. let q = iv.votes.v_applied n x a in clash (cc))

  held_at_all : (n : Node) → (k x).participants n ≡ true → Held σ.ends n x
  held_at_all n p = on (iv.votes.v_then n x (can.all_yes n p)) (λ q. q) (λ s. absurd (unsettled n s))

  pub good_x : R.Good (k x).participants
  good_x = let p = can.phase in good_participants R σ.ends σ.votes h iv.votes x (λ e. clash (cc)) (λ e. clash (cc))

  meeting : (y : Tx) → h.phase y ≡ committed → (n : Node) × Common (k y).participants (k x).participants n
  meeting y p = let good = good_participants R σ.ends σ.votes h iv.votes in
      R.meet (k y).participants (k x).participants (good y (λ e. clash (cc)) (λ e. clash (cc))) good_x

  applied_there : (n : Node) (y : Tx) (o : Object) → Held σ.ends n x → h.phase y ≡ committed → (k y).participants n ≡ true
      → Writes k y o → Keeps R k x o → σ.votes.applied n y ≡ true
  applied_there n y o here p q w c = on (iv.votes.v_then n y (iv.votes.v_all n y p q))
      (λ held. let f = was_voting y (iv.holds.h_one n y x o held here w c) in absurd (clash (cc)))
      (λ settled. on settled (λ e. absurd (clash (cc))) (λ a. a))

  pub found_is_last : (o : Object) → Keeps R k x o → (k x).version o ≡ l.length o
  found_is_last o c = let le = (iv.chain.c_found x o (R.keeps_touched ((k x).mode o) c)).0 in on (chain_end R h l iv.order o)
      (λ z. omega arith)
      (λ z. let y = z.0 in let p = z.1 in let w = z.2 in let last = z.3 in
      let at = meeting y p in let n = at.0 in let here = held_at_all n at.1.1 in
      let above = iv.holds.h_applied n y o (applied_there n y o here p at.1.0 w c) w in
      let below = iv.holds.h_version n x o here c in omega arith)

  pub written_is_last : (o : Object) → Writes k x o → (k x).version o ≡ l.length o
  written_is_last o w = found_is_last o (keeps_what_it_writes R k x o w)

  -- Votes.

  pub still_settled : (n : Node) (y : Tx) → Settled σ.votes h n y → Settled σ.votes h' n y
  still_settled n y s = on s (λ p. inl (still_aborted y p)) (λ a. inr a)

  votes_ok : VotesInv R σ.ends σ.votes h'
  votes_ok = let v = iv.votes in record {
    v_asked = λ n y a. (commit_forward h x can.phase).f_asked y (v.v_asked n y a);
    v_all = λ n y p q. on (phase_cases y) (λ z. rw z.0 (can.all_yes n (rw z.0 at q))) (λ z. v.v_all n y (sym z.1 ∙ p) q);
    v_good = λ y a. on (phase_cases y)
        (λ z. inl (subst (λ u. R.Good (k u).participants) (sym z.0) good_x))
        (λ z. on (v.v_good y (λ e. a (z.1 ∙ e))) (λ q. inl q) (λ q. inr (z.1 ∙ q)));
    v_then = λ n y a. on (v.v_then n y a) (λ q. inl q) (λ s. inr (still_settled n y s));
    v_late = v.v_late;
    v_held = v.v_held;
    v_applied = λ n y a. still_committed y (v.v_applied n y a);
  }

  -- Entries stay, and x's new values stand where they belong.

  source_old : (o : Object) (i : ℕ) → i ≤ l.length o → Sourced R h' o (l'.entry o i)
  source_old o i q = let e = entry_stays (k x) l o i q in on (iv.chain.c_source o i q)
      (λ p. inl (e ∙ p))
      (λ z. inr (z.0, still_committed z.0 z.1, z.2, e ∙ z.3))

  source : (o : Object) (i : ℕ) → i ≤ l'.length o → Sourced R h' o (l'.entry o i)
  source o i q = on (length_cases (k x) l o)
      (λ z. on (entry_cases (k x) l o i)
      (λ u. inr (x, now_committed, z.0, u.1))
      (λ u. let a : i ≢ suc (l.length o) = λ e. u.0 (z.0, e) in let b = z.1 in source_old o i (omega arith)))
      (λ z. let b = z.1 in source_old o i (omega arith))

  new_x : (o : Object) → Writes k x o → Entry l' o (suc ((k x).version o)) ((k x).new o)
  new_x o w = let f = written_is_last o w in on (length_cases (k x) l o)
      (λ z. let q = z.1 in on (entry_cases (k x) l o (suc ((k x).version o))) (λ u. (omega arith, sym u.1)) (λ u. absurd (u.0 (w, omega arith))))
      (λ z. absurd (z.0 w))

  new : (y : Tx) (o : Object) → h'.phase y ≡ committed → Writes k y o → Entry l' o (suc ((k y).version o)) ((k y).new o)
  new y o p w = on (phase_cases y)
      (λ z. subst (λ u. Entry l' o (suc ((k u).version o)) ((k u).new o)) (sym z.0) (new_x o (rw z.0 at w)))
      (λ z. still_entry (k x) l o (suc ((k y).version o)) ((k y).new o) (iv.chain.c_new y o (sym z.1 ∙ p) w))

  chain_ok : ChainInv R σ.store σ.sent h' l'
  chain_ok = let c = iv.chain in record {
    c_copy = λ n o. still_entry (k x) l o (σ.store.version n o) (σ.store.value n o) (c.c_copy n o);
    c_sent = λ m i. still_entry (k x) l m.object m.version m.value (c.c_sent m i);
    c_found = λ y o t. still_entry (k x) l o ((k y).version o) ((k y).found o) (c.c_found y o t);
    c_blank = λ o. entry_stays (k x) l o 0 (omega arith) ∙ c.c_blank o;
    c_source = source;
    c_new = new;
  }

  -- The test `wrote` changes only at x, and there only for what x writes.

  pub wrote_same : (y : Tx) (o : Object) → (y ≡ x → Writes k x o → ⊥) → wrote h' y o ≡ wrote h y o
  wrote_same y o a = on (phase_cases y)
      (λ z. let q = was_voting y z.0 in rw (z.1, q) (not_written committed ((k y).mode o) (λ w. a z.0 (rw z.0 at w))))
      (λ z. rw z.1)

  pub count_same : (m : List Tx) (o : Object) → (In x m → Writes k x o → ⊥) → count (wrote h') m o ≡ count (wrote h) m o
  count_same m o a = count_ext (wrote h) (wrote h') m o (λ y i. wrote_same y o (λ e. a (subst (λ u. In u m) e i)))

  pub replay_same : (m : List Tx) (o : Object) → (In x m → Writes k x o → ⊥) → replay R.blank (effect h') m o ≡ replay R.blank (effect h) m o
  replay_same m o a = replay_ext R.blank (effect h) (effect h') m o (λ y i b. rw (wrote_same y o (λ e. a (subst (λ u. In u m) e i))))

  pub wrote_new : (o : Object) → Writes k x o → wrote h' x o ≡ true
  wrote_new o w = rw (now_committed, w)

  wrote_not : (o : Object) → (Writes k x o → ⊥) → wrote h' x o ≡ false
  wrote_not o a = not_written (h'.phase x) ((k x).mode o) a

  -- The decisions.

  undecided : In x h.decisions → ⊥
  undecided i = let p = iv.order.o_committed x i in let q = can.phase in clash (cc)

  outside : (m : List Tx) → Suffix m h.decisions → (o : Object) → In x m → Writes k x o → ⊥
  outside m s o i w = undecided (in_suffix x m h.decisions s i)

  value_old : (m : List Tx) (o : Object) → Suffix m h.decisions → l'.entry o (count (wrote h') m o) ≡ replay R.blank (effect h') m o
  value_old m o s = let a = outside m s o in
      let le : count (wrote h) m o ≤ l.length o = rw (iv.order.o_length o) (count_suffix (wrote h) m h.decisions o s) in
      rw (count_same m o a, replay_same m o a, entry_stays (k x) l o (count (wrote h) m o) le) (iv.order.o_value m o s)

  length_old : (o : Object) → count (wrote h') h.decisions o ≡ l.length o
  length_old o = count_same h.decisions o (outside h.decisions (suffix_whole h.decisions) o) ∙ sym (iv.order.o_length o)

  value_all : (o : Object) → l'.entry o (count (wrote h') (x ∷ h.decisions) o) ≡ replay R.blank (effect h') (x ∷ h.decisions) o
  value_all o = on (length_cases (k x) l o)
      (λ y. rw (wrote_new o y.0, length_old o) (on (entry_cases (k x) l o (suc (l.length o))) (λ z. z.1) (λ z. absurd (z.0 (y.0, refl)))))
      (λ y. rw (wrote_not o y.0) (value_old h.decisions o (suffix_whole h.decisions)))

  value : (m : List Tx) (o : Object) → Suffix m (x ∷ h.decisions) → l'.entry o (count (wrote h') m o) ≡ replay R.blank (effect h') m o
  value m o (inl e) = rw e (value_all o)
  value m o (inr s) = value_old m o s

  length_all : (o : Object) → l'.length o ≡ count (wrote h') (x ∷ h.decisions) o
  length_all o = on (length_cases (k x) l o)
      (λ y. rw (wrote_new o y.0, length_old o) y.1)
      (λ y. rw (wrote_not o y.0, length_old o) y.1)

  found : (y : Tx) (m : List Tx) (o : Object) → Suffix (y ∷ m) (x ∷ h.decisions) → Keeps R k y o → (k y).version o ≡ count (wrote h') m o
  found y m o (inl e) c = let p = head-eq_of_cons-eq e in
      rw (p, tail-eq_of_cons-eq e) (found_is_last o (subst (λ u. Keeps R k u o) p c) ∙ sym (length_old o))
  found y m o (inr s) c = iv.order.o_found y m o s c ∙ sym (count_same m o (outside m (suffix_tail y m h.decisions s) o))

  once : (y : Tx) → AtMostOnce y (x ∷ h.decisions)
  once y m (inl e) i = undecided (rw (head-eq_of_cons-eq e, tail-eq_of_cons-eq e) at i)
  once y m (inr s) i = iv.order.o_once y m s i

  decided : (y : Tx) → In y (x ∷ h.decisions) → h'.phase y ≡ committed
  decided y (inl e) = ap h'.phase e ∙ now_committed
  decided y (inr i) = still_committed y (iv.order.o_committed y i)

  order_ok : OrderInv R h' l'
  order_ok = record {
    o_committed = decided;
    o_decided = λ y p. on (phase_cases y) (λ z. inl z.0) (λ z. inr (iv.order.o_decided y (sym z.1 ∙ p)));
    o_once = once;
    o_found = found;
    o_value = value;
    o_length = length_all;
  }

  pub commit_ok : Inv R (do_commit σ x)
  commit_ok = record { votes = votes_ok; holds = iv.holds; chain = chain_ok; order = order_ok }
