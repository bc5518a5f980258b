-- A node's memory is swapped and refilled (document 02, 2.10): the newest copies of a set in which every commit was applied, and the owners
-- over at their last serials, are a memory that keeps the invariant. Until then the abstract state may keep the node's old memory, since the
-- node is off and nobody reads it; (c) is said of the sets without it (Claims, newest_in), whose facts are node by node. The log and the
-- decisions stay as they are: "Bookings before and after a refill form one running, old messages still arriving."
use Rattle.std.specs.Prelude.{◌≡◌, ◌≢◌, ◌⊎◌, true, ℕ, suc, ◌≤◌}
use Rattle.std.proofs.Common.{sym, ◌∙◌, ap, subst, inl, inr, arith}
use Rattle.std.proofs.Math.Logic.{by_cases}
use Rattle.std.proofs.Math.Decide.{ℕ_discrete}
use Rattle.protocol.specs.Rules.{Node, Nodes, Object, Rules}
use Rattle.protocol.specs.State.{Tx, over, State, Writes, Keeps, Held}
use Rattle.protocol.specs.Chain.{Entry}
use Rattle.protocol.specs.Claims.{AppliedIn, Newest}
use Rattle.protocol.specs.Invariant.{Settled, NotAgain, Inv}
use Rattle.protocol.specs.Proof.Tables.{clash}
use Rattle.protocol.proofs.Tables.{on, Changed2, pick_both}
use Rattle.protocol.proofs.ListNoDropCopy.{ends_ok}
use Rattle.protocol.proofs.Apply.{chain_copies}
use Rattle.protocol.proofs.Core.{newest_version}
use Rattle.protocol.specs.Refine.Growth.{Late, Grows}
use Rattle.protocol.proofs.Refine.Growth.{by_replica_lem}
use Rattle.protocol.specs.Refine.Refill.{new_row, refilled}

row_both : {X Y : Type 0} (f : ℕ → ℕ → X) (g : ℕ → ℕ → Y) (n : ℕ) (v : ℕ → X) (w : ℕ → Y) (i j : ℕ)
    → Changed2 (i ≡ n) (new_row f n v i j) (v j) (f i j) (new_row g n w i j) (w j) (g i j)
unfolding new_row
row_both f g n v w i j = pick_both (ℕ_discrete i n) (v j) (f i j) (w j) (g i j)

module _ {A : Type 0} (R : Rules A) (σ : State A) (iv : Inv R σ) (n : Node) (q : Nodes) (source : Object → Node) (last : Node → ℕ)
    -- every commit was applied in the set, and the copies are the newest there
    (done : AppliedIn σ.votes σ.history q) (newest : (o : Object) → Newest σ.store q (source o) o)
    -- nobody is held at the node, and no owner's last serial falls
    (free : (x : Tx) → Held σ.ends n x → ⊥) (rises : (w : Node) → σ.ends.last n w ≤ last w) where
  abbrev τ : State A
  τ = refilled σ n source last

  copies : (m : Node) (o : Object)
      → Changed2 (m ≡ n) (τ.store.version m o) (σ.store.version (source o) o) (σ.store.version m o)
      (τ.store.value m o) (σ.store.value (source o) o) (σ.store.value m o)
  copies m o = row_both σ.store.version σ.store.value n (λ o. σ.store.version (source o) o) (λ o. σ.store.value (source o) o) m o

  owners : (m w : Node) → Changed2 (m ≡ n) (τ.ends.last m w) (last w) (σ.ends.last m w) (τ.ends.state m w) over (σ.ends.state m w)
  owners m w = row_both σ.ends.last σ.ends.state n last (λ w. over) m w

  held_elsewhere : (m : Node) (x : Tx) → Held τ.ends m x → Held σ.ends m x × (m ≢ n)
  held_elsewhere m x h = on (owners m x.owner) (λ z. let a = z.2 in let b = h.1 in absurd (clash (cc)))
      (λ z. ((sym z.1 ∙ h.0, sym z.2 ∙ h.1), z.0))

  still_held : (m : Node) (x : Tx) → Held σ.ends m x → Held τ.ends m x ⊎ Settled σ.votes σ.history m x
  still_held m x h = on (owners m x.owner) (λ z. absurd (free x (subst (λ u. Held σ.ends u x) z.0 h))) (λ z. inl (z.1 ∙ h.0, z.2 ∙ h.1))

  same_node : (m w : Node) → m ≡ n → σ.ends.last m w ≡ σ.ends.last n w
  same_node m w e = ap (λ u. σ.ends.last u w) e

  not_again : (m : Node) (x : Tx) → σ.votes.yes m x ≡ true → NotAgain τ.ends m x
  not_again m x v = let k = iv.votes.v_late m x v in on (owners m x.owner)
      (λ z. let a = z.1 in let b = z.2 in let c = rises x.owner in let d = same_node m x.owner z.0 in
      (omega (arith, k.0), λ e f. clash (cc)))
      (λ z. (omega (arith, k.0, z.1), λ e f. k.1 (sym z.1 ∙ e) (sym z.2 ∙ f)))

  -- the refilled copy is the chain's last entry, so no older than any commit that the node had applied
  applied_version : (m : Node) (x : Tx) (o : Object) → σ.votes.applied m x ≡ true → Writes σ.history.contents x o
      → suc ((σ.history.contents x).version o) ≤ τ.store.version m o
  applied_version m x o a w = on (copies m o)
      (λ z. let b = (iv.chain.c_new x o (iv.votes.v_applied m x a) w).0 in let c = newest_version R σ iv q done (source o) o (newest o) in
      let d = z.1 in omega arith)
      (λ z. rw z.1 (iv.holds.h_applied m x o a w))

  held_version : (m : Node) (x : Tx) (o : Object) → Held τ.ends m x → Keeps R σ.history.contents x o
      → τ.store.version m o ≤ (σ.history.contents x).version o
  held_version m x o h k = let d = held_elsewhere m x h in
      on (copies m o) (λ z. absurd (d.1 z.0)) (λ z. rw z.1 (iv.holds.h_version m x o d.0 k))

  copy_is_entry : (m : Node) (o : Object) → Entry σ.chain o (τ.store.version m o) (τ.store.value m o)
  copy_is_entry m o = on (copies m o) (λ z. rw (z.1, z.2) (iv.chain.c_copy (source o) o)) (λ z. rw (z.1, z.2) (iv.chain.c_copy m o))

  pub refill_ok : Inv R (refilled σ n source last)
  refill_ok = let jv = ends_ok R σ τ.ends iv (λ m x h. (held_elsewhere m x h).0) still_held not_again in record {
    votes = jv.votes;
    holds = record { h_one = jv.holds.h_one; h_version = held_version; h_applied = applied_version };
    chain = chain_copies R σ.store τ.store σ.sent σ.history σ.chain iv.chain copy_is_entry;
    order = iv.order;
  }

  -- what was late stays late, so old messages tell what they told
  still_late : (m : Node) (x : Tx) → Late σ.ends m x → Late τ.ends m x
  still_late m x l = on (owners m x.owner)
      (λ z. let a = z.1 in let c = rises x.owner in let d = same_node m x.owner z.0 in
      let le : x.serial ≤ last x.owner = on l (λ j. omega arith) (λ j. let e = j.0 in omega arith) in
      by_cases (ℕ_discrete x.serial (last x.owner)) (λ e. inr (a ∙ sym e, z.2)) (λ e. inl (omega arith)))
      (λ z. on l (λ j. inl (rw z.1 j)) (λ j. inr (z.1 ∙ j.0, z.2 ∙ j.1)))

  pub refill_grows : Grows σ (refilled σ n source last)
  refill_grows = by_replica_lem σ τ.store τ.ends σ.votes still_late (λ m x v. v) (λ m x v. v)
