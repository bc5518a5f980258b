-- LIST, NO, DROP and COPY keep the invariant. The first three change only an owner's state at one node: nobody is held anew, and whoever is
-- no longer held is aborted. COPY sends what stands in the store, which is an entry.
use Rattle.std.specs.Prelude.{◌≡◌, refl, ◌⊎◌, true, ◌≤◌, ◌<◌}
use Rattle.std.proofs.Common.{sym, ◌∙◌, ap, subst, inl, inr, arith}
use Rattle.std.proofs.Math.Decide.{ℕ_discrete}
use Rattle.protocol.specs.Table.{In}
use Rattle.protocol.specs.Rules.{Node, Object, Rules}
use Rattle.protocol.specs.State.{Tx, tx_path, Copy, OwnerState, over, listed, refused, Ends, State, Held}
use Rattle.protocol.specs.Chain.{Entry}
use Rattle.protocol.specs.Transitions.{by_replica, with_state, with_last, do_list, CanList, do_no, CanNo, do_drop, CanDrop, do_copy}
use Rattle.protocol.specs.Invariant.{Settled, NotAgain, Inv}
use Rattle.protocol.specs.Proof.Tables.{clash}
use Rattle.protocol.proofs.Tables.{on, Changed, Changed2, put2_cases, put2_both}

-- The two ways in which an owner's state changes.
pub state_cases : (e : Ends) (n w : Node) (s : OwnerState) (m u : Node)
    → Changed ((m ≡ n) × (u ≡ w)) ((with_state e n w s).state m u) s (e.state m u)
state_cases e n w s m u = put2_cases ℕ_discrete ℕ_discrete e.state n w s m u

pub last_cases : (e : Ends) (n : Node) (x : Tx) (s : OwnerState) (m u : Node)
    → Changed2 ((m ≡ n) × (u ≡ x.owner)) ((with_last e n x s).last m u) x.serial (e.last m u) ((with_last e n x s).state m u) s (e.state m u)
last_cases e n x s m u = put2_both ℕ_discrete ℕ_discrete e.last e.state n x.owner x.serial s m u

abbrev pub with_ends : {A : Type 0} → State A → Ends → State A
with_ends σ e = by_replica σ σ.store e σ.votes

-- The same transactions are held.
abbrev pub SameHeld : Ends → Ends → Type 0
SameHeld e e' = (n : Node) (x : Tx) → (Held e' n x → Held e n x) × (Held e n x → Held e' n x)

-- Listing an owner that was over, or refusing one that was listed, holds and frees nobody.
pub listed_holds : (e : Ends) (n : Node) (x : Tx) → e.state n x.owner ≡ over → SameHeld e (with_last e n x listed)
listed_holds e n x was m y = (
  λ q. on (last_cases e n x listed m y.owner)
      (λ z. let a = z.2 in let b = q.1 in absurd (clash (cc)))
      (λ z. (sym z.1 ∙ q.0, sym z.2 ∙ q.1)),
  λ q. on (last_cases e n x listed m y.owner)
      (λ z. let a = z.0.0 in let b = z.0.1 in let c = q.1 in absurd (clash (cc)))
      (λ z. (z.1 ∙ q.0, z.2 ∙ q.1)),
)

pub refused_holds : (e : Ends) (n w : Node) → e.state n w ≡ listed → SameHeld e (with_state e n w refused)
refused_holds e n w was m y = (
  λ q. on (state_cases e n w refused m y.owner)
      (λ z. let a = z.1 in let b = q.1 in absurd (clash (cc)))
      (λ z. (q.0, sym z.1 ∙ q.1)),
  λ q. on (state_cases e n w refused m y.owner)
      (λ z. let a = z.0.0 in let b = z.0.1 in let c = q.1 in absurd (clash (cc)))
      (λ z. (q.0, z.1 ∙ q.1)),
)

-- Only owners' states change: nobody is held anew, who is no longer held is settled, and nobody who got a yes is listed again.
pub ends_ok : {A : Type 0} (R : Rules A) (σ : State A) (e : Ends) → Inv R σ
    → ((n : Node) (x : Tx) → Held e n x → Held σ.ends n x)
    → ((n : Node) (x : Tx) → Held σ.ends n x → Held e n x ⊎ Settled σ.votes σ.history n x)
    → ((n : Node) (x : Tx) → σ.votes.yes n x ≡ true → NotAgain e n x)
    → Inv R (with_ends σ e)
ends_ok R σ e iv down up not_again = let v = iv.votes in record {
  votes = record {
    v_asked = v.v_asked;
    v_all = v.v_all;
    v_good = v.v_good;
    v_then = λ n x y. on (v.v_then n x y) (λ q. up n x q) (λ s. inr s);
    v_late = not_again;
    v_held = λ n x q. v.v_held n x (down n x q);
    v_applied = v.v_applied;
  };
  holds = record {
    h_one = λ n x y o q r. iv.holds.h_one n x y o (down n x q) (down n y r);
    h_version = λ n x o q. iv.holds.h_version n x o (down n x q);
    h_applied = iv.holds.h_applied;
  };
  chain = iv.chain;
  order = iv.order;
}

module _ {A : Type 0} (R : Rules A) (σ : State A) (n : Node) (x : Tx) (iv : Inv R σ) where
  abbrev e : Ends
  e = σ.ends

  not_again : (s : OwnerState) → e.last n x.owner ≤ x.serial → (e.last n x.owner < x.serial) ⊎ (s ≡ over)
      → (m : Node) (y : Tx) → σ.votes.yes m y ≡ true → NotAgain (with_last e n x s) m y
  not_again s up how m y v = let k = iv.votes.v_late m y v in on (last_cases e n x s m y.owner)
      (λ z. let k0 = k.0 in let p = z.0.0 in let q = z.0.1 in let z1 = z.1 in let z2 = z.2 in
      let r : e.last m y.owner ≡ e.last n x.owner = cc in
      (omega arith, λ a b. on how (λ c. omega arith) (λ c. clash (cc))))
      (λ z. (omega (arith, k.0, z.1), λ a b. k.1 (sym z.1 ∙ a) (sym z.2 ∙ b)))

  pub list_ok : CanList σ n x → Inv R (do_list σ n x)
  list_ok can = let same = listed_holds e n x can.over in let a = can.above in
      ends_ok R σ (with_last e n x listed) iv (λ m y. (same m y).0) (λ m y q. inl ((same m y).1 q)) (not_again listed (omega arith) (inl a))

  pub no_ok : CanNo σ n x → Inv R (do_no σ n x)
  no_ok can = let same = refused_holds e n x.owner can in
      ends_ok R σ (with_state e n x.owner refused) iv (λ m y. (same m y).0) (λ m y q. inl ((same m y).1 q))
      (λ m y v. let k = iv.votes.v_late m y v in
      (k.0, λ a b. on (state_cases e n x.owner refused m y.owner) (λ z. let u = z.1 in clash (cc)) (λ z. k.1 a (sym z.1 ∙ b))))

  -- who is freed is x itself, and it is aborted
  dropped : CanDrop σ n x → (m : Node) (y : Tx) → Held e m y → Held (with_last e n x over) m y ⊎ Settled σ.votes σ.history m y
  dropped can m y q = on (last_cases e n x over m y.owner)
      (λ z. let u = z.0.0 in let w = z.0.1 in let q0 = q.0 in let q1 = q.1 in on can.fits
      (λ f. let s : y.serial ≡ x.serial = cc in inr (inl (ap σ.history.phase (tx_path y x w s) ∙ can.phase)))
      (λ f. let r = f.1 in absurd (clash (cc))))
      (λ z. inl (z.1 ∙ q.0, z.2 ∙ q.1))

  pub drop_ok : CanDrop σ n x → Inv R (do_drop σ n x)
  drop_ok can = ends_ok R σ (with_last e n x over) iv
      (λ m y q. on (last_cases e n x over m y.owner)
      (λ z. let a = z.2 in let b = q.1 in absurd (clash (cc)))
      (λ z. (sym z.1 ∙ q.0, sym z.2 ∙ q.1)))
      (dropped can)
      (not_again over (on can.fits (λ f. omega arith) (λ f. let f0 = f.0 in omega arith)) (inr refl))

pub copy_ok : {A : Type 0} (R : Rules A) (σ : State A) (n : Node) (o : Object) → Inv R σ → Inv R (do_copy σ n o)
copy_ok {A} R σ n o iv = let c = iv.chain in record {
  votes = iv.votes;
  holds = iv.holds;
  chain = record { c_copy = c.c_copy; c_sent = sent; c_found = c.c_found; c_blank = c.c_blank; c_source = c.c_source; c_new = c.c_new };
  order = iv.order;
}
  where
    sent : (m : Copy A) → In m (do_copy σ n o).sent → Entry σ.chain m.object m.version m.value
    sent m (inl e) = subst (λ (m : Copy A). Entry σ.chain m.object m.version m.value) (sym e) (iv.chain.c_copy n o)
    sent m (inr i) = iv.chain.c_sent m i
