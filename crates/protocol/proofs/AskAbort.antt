-- ASK and ABORT keep the invariant. Both move phases and contents and commit nothing; and contents move only of what nobody has voted on,
-- so no fact about votes, holds, entries or decisions changes.
use Rattle.std.specs.Prelude.{◌≡◌, refl, ◌≢◌, ◌⊎◌, List, ◌∷◌}
use Rattle.std.proofs.Common.{sym, ◌∙◌, ap, subst, inl, inr, arith}
use Rattle.std.proofs.Math.Logic.{by_cases}
use Rattle.protocol.specs.Table.{put, In, Suffix}
use Rattle.protocol.specs.Rules.{Node, Object, unused, Rules}
use Rattle.protocol.specs.State.{Tx, Tx-discrete, Phase, fresh, voting, committed, aborted, Phase-discrete, Contents, Votes, History, State}
use Rattle.protocol.specs.State.{Writes, Touches, Keeps, Held}
use Rattle.protocol.specs.Chain.{Entry}
use Rattle.protocol.specs.Replay.{replay}
use Rattle.protocol.specs.Transitions.{by_coordinator, do_ask, CanAsk, do_abort, CanAbort}
use Rattle.protocol.specs.Invariant.{wrote, count, effect, Settled, VotesInv, HoldsInv, ChainInv, OrderInv, Inv}
use Rattle.protocol.specs.Proof.Tables.{clash}
use Rattle.protocol.proofs.Tables.{on, Changed, put_cases}
use Rattle.protocol.proofs.Lists.{suffix_whole, in_suffix, count_ext, replay_ext, not_committed}
use Rattle.protocol.specs.Proof.AskAbort.{Forward}

abbrev pub with_tx : {A : Type 0} → History A → (Tx → Phase) → (Tx → Contents A) → History A
with_tx h p k = record { phase = p; contents = k; decisions = h.decisions }

-- Phases go to p and contents to k: forward, and nothing is committed.
pub record Moves {A : Type 0} (h : History A) (p : Tx → Phase) (k : Tx → Contents A) : Type 0 where
  pub forward : Forward h (with_tx h p k)
  pub uncommitted : (x : Tx) → p x ≡ committed → h.phase x ≡ committed

abbrev pub moved : {A : Type 0} → State A → (Tx → Phase) → (Tx → Contents A) → State A
moved σ p k = by_coordinator σ (with_tx σ.history p k) σ.chain

pub committed_asked : {A : Type 0} (h : History A) (x : Tx) → h.phase x ≡ committed → h.phase x ≢ fresh
committed_asked h x p q = clash (cc)

-- What a move leaves.
module _ {A : Type 0} (h : History A) (p : Tx → Phase) (k : Tx → Contents A) (m : Moves h p k) where
  abbrev h' : History A
  h' = with_tx h p k

  pub moved_settled : (v : Votes) (n : Node) (x : Tx) → Settled v h n x → Settled v h' n x
  moved_settled v n x s = on s (λ e. inl (m.forward.f_aborted x e)) (λ a. inr a)

  pub moved_wrote : (x : Tx) (o : Object) → h.phase x ≢ fresh → wrote h' x o ≡ wrote h x o
  moved_wrote x o a = by_cases (Phase-discrete (h.phase x) committed)
      (λ q. rw (m.forward.f_committed x q, q, m.forward.f_contents x a))
      (λ q. not_committed (p x) ((k x).mode o) (λ e. q (m.uncommitted x e)) ∙ sym (not_committed (h.phase x) ((h.contents x).mode o) q))

  pub moved_count : (l : List Tx) (o : Object) → ((x : Tx) → In x l → h.phase x ≢ fresh) → count (wrote h') l o ≡ count (wrote h) l o
  moved_count l o a = count_ext (wrote h) (wrote h') l o (λ x i. moved_wrote x o (a x i))

  pub moved_replay : (z : A) (l : List Tx) (o : Object) → ((x : Tx) → In x l → h.phase x ≢ fresh) → replay z (effect h') l o ≡ replay z (effect h) l o
  moved_replay z l o a = replay_ext z (effect h) (effect h') l o (λ x i b. rw (moved_wrote x o (a x i), m.forward.f_contents x (a x i)))

  moved_writes : (x : Tx) (o : Object) → h.phase x ≢ fresh → Writes k x o → Writes h.contents x o
  moved_writes x o a w = rw (m.forward.f_contents x a) at w

  moved_keeps : (R : Rules A) (x : Tx) (o : Object) → h.phase x ≢ fresh → Keeps R k x o → Keeps R h.contents x o
  moved_keeps R x o a w = subst (λ (c : Contents A). R.Keeps (c.mode o)) (m.forward.f_contents x a) w

module _ {A : Type 0} (R : Rules A) (σ : State A) (p : Tx → Phase) (k : Tx → Contents A) (m : Moves σ.history p k) (iv : Inv R σ) where
  abbrev g : History A
  g = σ.history

  abbrev g' : History A
  g' = with_tx σ.history p k

  held_asked : (n : Node) (x : Tx) → Held σ.ends n x → g.phase x ≢ fresh
  held_asked n x q = iv.votes.v_asked n x (iv.votes.v_held n x q)

  moved_votes : ((x : Tx) → p x ≢ fresh → R.Good (k x).participants ⊎ (p x ≡ aborted)) → VotesInv R σ.ends σ.votes g'
  moved_votes good = let v = iv.votes in record {
    v_asked = λ n x y. m.forward.f_asked x (v.v_asked n x y);
    v_all = λ n x q y. let z = m.uncommitted x q in v.v_all n x z (rw (m.forward.f_contents x (committed_asked g x z)) at y);
    v_good = good;
    v_then = λ n x y. on (v.v_then n x y) (λ q. inl q) (λ s. inr (moved_settled g p k m σ.votes n x s));
    v_late = v.v_late;
    v_held = v.v_held;
    v_applied = λ n x a. m.forward.f_committed x (v.v_applied n x a);
  }

  moved_holds : HoldsInv R σ.store σ.ends σ.votes k
  moved_holds = let d = iv.holds in record {
    h_one = λ n x y o q r w e. d.h_one n x y o q r (moved_writes g p k m x o (held_asked n x q) w) (moved_keeps g p k m R y o (held_asked n y r) e);
    h_version = λ n x o q e. rw (m.forward.f_contents x (held_asked n x q)) (d.h_version n x o q (moved_keeps g p k m R x o (held_asked n x q) e));
    h_applied = λ n x o a w. let b = committed_asked g x (iv.votes.v_applied n x a) in
        rw (m.forward.f_contents x b) (d.h_applied n x o a (moved_writes g p k m x o b w));
  }

  moved_chain : ((x : Tx) (o : Object) → Touches k x o → Entry σ.chain o ((k x).version o) ((k x).found o)) → ChainInv R σ.store σ.sent g' σ.chain
  moved_chain found = let c = iv.chain in record {
    c_copy = c.c_copy;
    c_sent = c.c_sent;
    c_found = found;
    c_blank = c.c_blank;
    c_source = λ o i q. on (c.c_source o i q) (λ e. inl e) (λ z. let x = z.0 in let same = m.forward.f_contents x (committed_asked g x z.1) in
        inr (x, m.forward.f_committed x z.1, rw same z.2, rw same z.3));
    c_new = λ x o q w. let z = m.uncommitted x q in let b = committed_asked g x z in
        rw (m.forward.f_contents x b) (c.c_new x o z (moved_writes g p k m x o b w));
  }

  decided_asked : (l : List Tx) → Suffix l g.decisions → (x : Tx) → In x l → g.phase x ≢ fresh
  decided_asked l s x i = committed_asked g x (iv.order.o_committed x (in_suffix x l g.decisions s i))

  moved_order : OrderInv R g' σ.chain
  moved_order = let d = iv.order in record {
    o_committed = λ x i. m.forward.f_committed x (d.o_committed x i);
    o_decided = λ x q. d.o_decided x (m.uncommitted x q);
    o_once = d.o_once;
    o_found = λ x l o s q. let a = decided_asked (x ∷ l) s in let b = a x (inl refl) in
        rw (m.forward.f_contents x b, moved_count g p k m l o (λ y i. a y (inr i))) (d.o_found x l o s (moved_keeps g p k m R x o b q));
    o_value = λ l o s. let a = decided_asked l s in rw (moved_count g p k m l o a, moved_replay g p k m R.blank l o a) (d.o_value l o s);
    o_length = λ o. d.o_length o ∙ sym (moved_count g p k m g.decisions o (λ x i. committed_asked g x (d.o_committed x i)));
  }

  moved_ok : ((x : Tx) → p x ≢ fresh → R.Good (k x).participants ⊎ (p x ≡ aborted))
      → ((x : Tx) (o : Object) → Touches k x o → Entry σ.chain o ((k x).version o) ((k x).found o)) → Inv R (moved σ p k)
  moved_ok good found = record { votes = moved_votes good; holds = moved_holds; chain = moved_chain found; order = moved_order }

-- The two transitions.
module _ {A : Type 0} (R : Rules A) (σ : State A) (x : Tx) where
  abbrev phase_of : Tx → Phase
  phase_of = σ.history.phase

  abbrev contents_of : Tx → Contents A
  contents_of = σ.history.contents

  phase_cases : (q : Phase) (y : Tx) → Changed (y ≡ x) (put Tx-discrete phase_of x q y) q (phase_of y)
  phase_cases q y = put_cases Tx-discrete phase_of x q y

  contents_cases : (c : Contents A) (y : Tx) → Changed (y ≡ x) (put Tx-discrete contents_of x c y) c (contents_of y)
  contents_cases c y = put_cases Tx-discrete contents_of x c y

  pub ask_moves : (c : Contents A) → CanAsk R σ x c → Moves σ.history (put Tx-discrete phase_of x voting) (put Tx-discrete contents_of x c)
  ask_moves c can = record {
    forward = record {
      f_asked = λ y a e. on (phase_cases voting y) (λ z. clash (cc)) (λ z. a (sym z.1 ∙ e));
      f_contents = λ y a. on (contents_cases c y) (λ z. absurd (a (was_fresh y z.0))) (λ z. z.1);
      f_committed = still committed (λ e. clash (cc));
      f_aborted = still aborted (λ e. clash (cc));
      f_decisions = suffix_whole σ.history.decisions;
    };
    uncommitted = λ y q. on (phase_cases voting y) (λ z. absurd (clash (cc))) (λ z. sym z.1 ∙ q);
  }
    where
      was_fresh : (y : Tx) → y ≡ x → phase_of y ≡ fresh
      was_fresh y e = ap phase_of e ∙ can.phase

      still : (q : Phase) → q ≢ fresh → (y : Tx) → phase_of y ≡ q → put Tx-discrete phase_of x voting y ≡ q
      still q a y e = on (phase_cases voting y) (λ z. absurd (a (sym e ∙ was_fresh y z.0))) (λ z. z.1 ∙ e)

  pub ask_ok : (c : Contents A) → CanAsk R σ x c → Inv R σ → Inv R (do_ask σ x c)
  ask_ok c can iv = moved_ok R σ (put Tx-discrete phase_of x voting) (put Tx-discrete contents_of x c) (ask_moves c can) iv good found
    where
      GoodOf : Contents A → Type 0
      GoodOf d = R.Good d.participants

      good : (y : Tx) → put Tx-discrete phase_of x voting y ≢ fresh → GoodOf (put Tx-discrete contents_of x c y)
          ⊎ (put Tx-discrete phase_of x voting y ≡ aborted)
      good y a = on (contents_cases c y)
          (λ z. inl (subst GoodOf (sym z.1) can.good))
          (λ z. on (phase_cases voting y) (λ u. absurd (z.0 u.0))
          (λ u. on (iv.votes.v_good y (λ e. a (u.1 ∙ e))) (λ q. inl (subst GoodOf (sym z.1) q)) (λ q. inr (u.1 ∙ q))))

      new_entry : (o : Object) → c.mode o ≢ unused → Entry σ.chain o (c.version o) (c.found o)
      new_entry o t = on (can.found o t)
          (λ q. rw (q.0, q.1) (omega arith, sym (iv.chain.c_blank o)))
          (λ i. iv.chain.c_sent (record { object = o; version = c.version o; value = c.found o }) i)

      found : (y : Tx) (o : Object) → Touches (put Tx-discrete contents_of x c) y o
          → Entry σ.chain o ((put Tx-discrete contents_of x c y).version o) ((put Tx-discrete contents_of x c y).found o)
      found y o t = on (contents_cases c y)
          (λ z. rw z.1 (new_entry o (rw z.1 at t)))
          (λ z. rw z.1 (iv.chain.c_found y o (rw z.1 at t)))

  pub abort_moves : CanAbort σ x → Moves σ.history (put Tx-discrete phase_of x aborted) contents_of
  abort_moves can = record {
    forward = record {
      f_asked = λ y a e. on (phase_cases aborted y) (λ z. clash (cc)) (λ z. a (sym z.1 ∙ e));
      f_contents = λ y a. refl;
      f_committed = λ y q. on (phase_cases aborted y) (λ z. absurd (undecided y z.0 q)) (λ z. z.1 ∙ q);
      f_aborted = λ y q. on (phase_cases aborted y) (λ z. z.1) (λ z. z.1 ∙ q);
      f_decisions = suffix_whole σ.history.decisions;
    };
    uncommitted = λ y q. on (phase_cases aborted y) (λ z. absurd (clash (cc))) (λ z. sym z.1 ∙ q);
  }
    where
      undecided : (y : Tx) → y ≡ x → phase_of y ≡ committed → ⊥
      undecided y e q = on (subst (CanAbort σ) (sym e) can) (λ f. clash (cc)) (λ f. clash (cc))

  pub abort_ok : CanAbort σ x → Inv R σ → Inv R (do_abort σ x)
  abort_ok can iv = moved_ok R σ (put Tx-discrete phase_of x aborted) contents_of (abort_moves can) iv good iv.chain.c_found
    where
      good : (y : Tx) → put Tx-discrete phase_of x aborted y ≢ fresh → R.Good (contents_of y).participants ⊎ (put Tx-discrete phase_of x aborted y ≡ aborted)
      good y a = on (phase_cases aborted y) (λ z. inr z.1)
          (λ z. on (iv.votes.v_good y (λ e. a (z.1 ∙ e))) (λ q. inl q) (λ q. inr (z.1 ∙ q)))
