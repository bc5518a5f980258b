-- YES keeps the invariant. What is new is the vote and the hold: nobody was held against it and no copy was newer, which is what the holds
-- say; and its serial is still listed, so this is its first yes here.
use Rattle.std.specs.Prelude.{◌≡◌, ◌⊎◌, true, ◌≤◌}
use Rattle.std.proofs.Common.{sym, ◌∙◌, ap, subst, inl, inr, arith}
use Rattle.std.proofs.Math.Decide.{ℕ_discrete}
use Rattle.protocol.specs.Rules.{Node, Object, Rules}
use Rattle.protocol.specs.State.{Tx, tx_path, Tx-discrete, held, Contents, Ends, Votes, State, Writes, Touches, Keeps, Held}
use Rattle.protocol.specs.Transitions.{with_state, with_yes, do_yes, CanYes}
use Rattle.protocol.specs.Invariant.{Settled, NotAgain, Inv}
use Rattle.protocol.specs.Proof.Tables.{clash}
use Rattle.protocol.proofs.Tables.{on, Changed, put2_cases, mark_stays}
use Rattle.protocol.proofs.ListNoDropCopy.{state_cases}
use Rattle.protocol.specs.Proof.Yes.{write_used}

pub writes_touches : {A : Type 0} (k : Tx → Contents A) (x : Tx) (o : Object) → Writes k x o → Touches k x o
writes_touches k x o w = write_used ((k x).mode o) w

-- Who is held after a yes was held before, or is the one that got it.
pub held_after_yes : (e : Ends) (n : Node) (x : Tx) → e.last n x.owner ≡ x.serial → (m : Node) (y : Tx)
    → Held (with_state e n x.owner held) m y → Held e m y ⊎ ((m ≡ n) × (y ≡ x))
held_after_yes e n x l m y q = on (state_cases e n x.owner held m y.owner)
    (λ z. let u = z.0.0 in let w = z.0.1 in let r : e.last m y.owner ≡ e.last n x.owner = cc in
    inr (u, tx_path y x w (sym q.0 ∙ r ∙ l)))
    (λ z. inl (q.0, sym z.1 ∙ q.1))

-- Who was held before still is, and so is the one that got it.
pub still_held_after_yes : (e : Ends) (n w : Node) (m : Node) (y : Tx) → Held e m y → Held (with_state e n w held) m y
still_held_after_yes e n w m y q = on (state_cases e n w held m y.owner) (λ z. (q.0, z.1)) (λ z. (q.0, z.1 ∙ q.1))

pub now_held_after_yes : (e : Ends) (n : Node) (x : Tx) → e.last n x.owner ≡ x.serial → (m : Node) (y : Tx) → (m ≡ n) × (y ≡ x)
    → Held (with_state e n x.owner held) m y
now_held_after_yes e n x l m y q = let a = q.0 in let b = q.1 in let r : e.last m y.owner ≡ y.serial = cc in
    on (state_cases e n x.owner held m y.owner) (λ z. (r, z.1)) (λ z. absurd (z.0 (a, ap (λ (u : Tx). u.owner) b)))

module _ {A : Type 0} (R : Rules A) (σ : State A) (n : Node) (x : Tx) (can : CanYes R σ n x) (iv : Inv R σ) where
  abbrev k : Tx → Contents A
  k = σ.history.contents

  abbrev e' : Ends
  e' = with_state σ.ends n x.owner held

  abbrev v' : Votes
  v' = with_yes σ.votes n x

  pub first_yes_lem : σ.votes.yes n x ≡ true → ⊥
  first_yes_lem v = (iv.votes.v_late n x v).1 can.last can.listed

  pub yes_cases : (m : Node) (y : Tx) → Changed ((m ≡ n) × (y ≡ x)) (v'.yes m y) true (σ.votes.yes m y)
  yes_cases m y = put2_cases ℕ_discrete Tx-discrete σ.votes.yes n x true m y

  pub yes_stays : (m : Node) (y : Tx) → σ.votes.yes m y ≡ true → v'.yes m y ≡ true
  yes_stays m y v = mark_stays ℕ_discrete Tx-discrete σ.votes.yes n x m y v

  pub yes_new : (m : Node) (y : Tx) → (m ≡ n) × (y ≡ x) → v'.yes m y ≡ true
  yes_new m y e = on (yes_cases m y) (λ z. z.1) (λ z. absurd (z.0 e))

  was_held : (m : Node) (y : Tx) → Held e' m y → Held σ.ends m y ⊎ ((m ≡ n) × (y ≡ x))
  was_held m y q = held_after_yes σ.ends n x can.last m y q

  now_held : (m : Node) (y : Tx) → (m ≡ n) × (y ≡ x) → Held e' m y
  now_held m y q = now_held_after_yes σ.ends n x can.last m y q

  held_or_settled : (m : Node) (y : Tx) → v'.yes m y ≡ true → Held e' m y ⊎ Settled v' σ.history m y
  held_or_settled m y v = on (yes_cases m y)
      (λ z. inl (now_held m y z.0))
      (λ z. on (iv.votes.v_then m y (sym z.1 ∙ v)) (λ q. inl (still_held_after_yes σ.ends n x.owner m y q)) (λ s. inr s))

  not_again : (m : Node) (y : Tx) → v'.yes m y ≡ true → NotAgain e' m y
  not_again m y v = on (yes_cases m y)
      (λ z. let q = now_held m y z.0 in let q0 = q.0 in let q1 = q.1 in (omega arith, λ a b. clash (cc)))
      (λ z. let q = iv.votes.v_late m y (sym z.1 ∙ v) in
      (q.0, λ a b. on (state_cases σ.ends n x.owner held m y.owner) (λ u. let w = u.1 in clash (cc)) (λ u. q.1 a (sym u.1 ∙ b))))

  -- nobody was held against x
  one_holder : (m : Node) (y z : Tx) (o : Object) → Held e' m y → Held e' m z → Writes k y o → Keeps R k z o → y ≡ z
  one_holder m y z o p q w c = on (was_held m y p)
      (λ a. on (was_held m z q)
      (λ b. iv.holds.h_one m y z o a b w c)
      (λ b. absurd (can.free o y (rw b.0 at a, inl (w, R.keeps_touched ((k x).mode o) (subst (λ u. Keeps R k u o) b.1 c))))))
      (λ a. on (was_held m z q)
      (λ b. absurd (can.free o z (rw a.0 at b, inr (c, subst (λ u. Writes k u o) a.1 w))))
      (λ b. a.1 ∙ sym b.1))

  -- no copy here was newer than what x found
  held_version : (m : Node) (y : Tx) (o : Object) → Held e' m y → Keeps R k y o → σ.store.version m o ≤ (k y).version o
  held_version m y o q c = on (was_held m y q)
      (λ a. iv.holds.h_version m y o a c)
      (λ a. rw (a.0, a.1) (can.current o (R.keeps_touched ((k x).mode o) (subst (λ u. Keeps R k u o) a.1 c))))

  pub yes_ok : Inv R (do_yes σ n x)
  yes_ok = let v = iv.votes in record {
    votes = record {
      v_asked = λ m y a f. on (yes_cases m y) (λ z. can.asked (sym (ap σ.history.phase z.0.1) ∙ f)) (λ z. v.v_asked m y (sym z.1 ∙ a) f);
      v_all = λ m y p q. yes_stays m y (v.v_all m y p q);
      v_good = v.v_good;
      v_then = held_or_settled;
      v_late = not_again;
      v_held = λ m y q. on (was_held m y q) (λ a. yes_stays m y (v.v_held m y a)) (λ a. yes_new m y a);
      v_applied = v.v_applied;
    };
    holds = record { h_one = one_holder; h_version = held_version; h_applied = iv.holds.h_applied };
    chain = iv.chain;
    order = iv.order;
  }
