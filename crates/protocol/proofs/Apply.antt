-- APPLY keeps the invariant. The new copies are entries, since the commit put the new values there; and whoever is still held at the node
-- keeps nothing that was written, since of two held there none writes what the other keeps.
use Rattle.std.specs.Prelude.{◌≡◌, ◌⊎◌, List, true, suc, ◌≤◌}
use Rattle.std.proofs.Common.{sym, ◌∙◌, ap, subst, inl, inr, arith}
use Rattle.std.proofs.Math.Decide.{ℕ_discrete}
use Rattle.protocol.specs.Rules.{Node, Object, Rules}
use Rattle.protocol.specs.State.{Tx, tx_path, Tx-discrete, over, Contents, Copy, Store, Ends, Votes, History, Chain, State}
use Rattle.protocol.specs.State.{Writes, Keeps, writes?, Held}
use Rattle.protocol.specs.Chain.{Entry}
use Rattle.protocol.specs.Transitions.{with_state, with_applied, stored, do_apply, CanApply}
use Rattle.protocol.specs.Invariant.{Settled, NotAgain, ChainInv, Inv}
use Rattle.protocol.specs.Proof.Tables.{clash}
use Rattle.protocol.proofs.Tables.{on, Changed, put2_cases, mark_stays, put_row_cases, put_row_both}
use Rattle.protocol.proofs.ListNoDropCopy.{state_cases}
use Rattle.protocol.proofs.Commit.{keeps_what_it_writes}

-- Other copies, which are entries too.
pub chain_copies : {A : Type 0} (R : Rules A) (s s' : Store A) (m : List (Copy A)) (h : History A) (l : Chain A) → ChainInv R s m h l
    → ((n : Node) (o : Object) → Entry l o (s'.version n o) (s'.value n o)) → ChainInv R s' m h l
chain_copies R s s' m h l c entries = record {
  c_copy = entries;
  c_sent = c.c_sent;
  c_found = c.c_found;
  c_blank = c.c_blank;
  c_source = c.c_source;
  c_new = c.c_new;
}

module _ {A : Type 0} (R : Rules A) (σ : State A) (n : Node) (x : Tx) (can : CanApply σ n x) (iv : Inv R σ) where
  abbrev k : Tx → Contents A
  k = σ.history.contents

  abbrev e' : Ends
  e' = with_state σ.ends n x.owner over

  abbrev v' : Votes
  v' = with_applied σ.votes n x

  abbrev s' : Store A
  s' = stored σ.store (σ.history.contents x) n

  cases : (m u : Node) → Changed ((m ≡ n) × (u ≡ x.owner)) (e'.state m u) over (σ.ends.state m u)
  cases m u = state_cases σ.ends n x.owner over m u

  was_held : (m : Node) (y : Tx) → Held e' m y → Held σ.ends m y × (((m ≡ n) × (y.owner ≡ x.owner)) → ⊥)
  was_held m y q = on (cases m y.owner) (λ z. let u = z.1 in let q1 = q.1 in absurd (clash (cc))) (λ z. ((q.0, sym z.1 ∙ q.1), z.0))

  still_held : (m : Node) (y : Tx) → Held σ.ends m y → Held e' m y ⊎ ((m ≡ n) × (y ≡ x))
  still_held m y q = on (cases m y.owner)
      (λ z. let p = can.here.0 in let a = z.0.0 in let b = z.0.1 in let q0 = q.0 in let s : y.serial ≡ x.serial = cc in inr (a, tx_path y x b s))
      (λ z. inl (q.0, z.1 ∙ q.1))

  applied_cases : (m : Node) (y : Tx) → Changed ((m ≡ n) × (y ≡ x)) (v'.applied m y) true (σ.votes.applied m y)
  applied_cases m y = put2_cases ℕ_discrete Tx-discrete σ.votes.applied n x true m y

  pub still_settled : (m : Node) (y : Tx) → Settled σ.votes σ.history m y → Settled v' σ.history m y
  still_settled m y s = on s (λ e. inl e) (λ a. inr (mark_stays ℕ_discrete Tx-discrete σ.votes.applied n x m y a))

  held_or_settled : (m : Node) (y : Tx) → σ.votes.yes m y ≡ true → Held e' m y ⊎ Settled v' σ.history m y
  held_or_settled m y v = on (iv.votes.v_then m y v)
      (λ q. on (still_held m y q) (λ a. inl a) (λ e. inr (inr (on (applied_cases m y) (λ z. z.1) (λ z. absurd (z.0 e))))))
      (λ s. inr (still_settled m y s))

  not_again : (m : Node) (y : Tx) → σ.votes.yes m y ≡ true → NotAgain e' m y
  not_again m y v = let q = iv.votes.v_late m y v in
      (q.0, λ a b. on (cases m y.owner) (λ z. let u = z.1 in clash (cc)) (λ z. q.1 a (sym z.1 ∙ b)))

  -- who is still held here keeps nothing that x writes
  held_version : (m : Node) (y : Tx) (o : Object) → Held e' m y → Keeps R k y o → s'.version m o ≤ (k y).version o
  held_version m y o q c = let a = was_held m y q in on (put_row_cases (writes? (k x)) σ.store.version n (λ u. suc ((k x).version u)) m o)
      (λ z. let e = iv.holds.h_one n x y o can.here (subst (λ u. Held σ.ends u y) z.0.0 a.0) z.0.1 c in
      absurd (a.1 (z.0.0, ap (λ (u : Tx). u.owner) (sym e))))
      (λ z. rw z.1 (iv.holds.h_version m y o a.0 c))

  -- the version here rises, since it was at most the one found
  applied_version : (m : Node) (y : Tx) (o : Object) → v'.applied m y ≡ true → Writes k y o → suc ((k y).version o) ≤ s'.version m o
  applied_version m y o a w = on (put_row_cases (writes? (k x)) σ.store.version n (λ u. suc ((k x).version u)) m o)
      (λ z. let z1 = z.1 in on (applied_cases m y)
      (λ u. let e : (k y).version o ≡ (k x).version o = ap (λ b. (k b).version o) u.0.1 in omega arith)
      (λ u. let b = iv.holds.h_applied m y o (sym u.1 ∙ a) w in
      let c = iv.holds.h_version n x o can.here (keeps_what_it_writes R k x o z.0.1) in
      let e : σ.store.version m o ≡ σ.store.version n o = ap (λ b. σ.store.version b o) z.0.0 in omega arith))
      (λ z. on (applied_cases m y)
      (λ u. absurd (z.0 (u.0.0, subst (λ b. Writes k b o) u.0.1 w)))
      (λ u. rw z.1 (iv.holds.h_applied m y o (sym u.1 ∙ a) w)))

  copy_is_entry : (m : Node) (o : Object) → Entry σ.chain o (s'.version m o) (s'.value m o)
  copy_is_entry m o = on (put_row_both (writes? (k x)) σ.store.version n (λ u. suc ((k x).version u)) σ.store.value (k x).new m o)
      (λ z. rw (z.1, z.2) (iv.chain.c_new x o can.phase z.0.1))
      (λ z. rw (z.1, z.2) (iv.chain.c_copy m o))

  pub apply_ok : Inv R (do_apply σ n x)
  apply_ok = let v = iv.votes in record {
    votes = record {
      v_asked = v.v_asked;
      v_all = v.v_all;
      v_good = v.v_good;
      v_then = held_or_settled;
      v_late = not_again;
      v_held = λ m y q. v.v_held m y (was_held m y q).0;
      v_applied = λ m y a. on (applied_cases m y) (λ z. ap σ.history.phase z.0.1 ∙ can.phase) (λ z. v.v_applied m y (sym z.1 ∙ a));
    };
    holds = record {
      h_one = λ m y z o p q. iv.holds.h_one m y z o (was_held m y p).0 (was_held m z q).0;
      h_version = held_version;
      h_applied = applied_version;
    };
    chain = chain_copies R σ.store s' σ.sent σ.history σ.chain iv.chain copy_is_entry;
    order = iv.order;
  }
