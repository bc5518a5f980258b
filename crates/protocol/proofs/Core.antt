-- The claims follow from the invariant. (a): found is the entry at the number of writers decided before, which is what replay holds then.
-- (b): each entry is blank or a committed new value. (c): the last writer was applied at a node of the set, so the newest there is the last.
use Rattle.std.specs.Prelude.{◌≡◌, List, ◌∷◌, ℕ}
use Rattle.std.proofs.Common.{sym, ◌∙◌, ap, subst, arith}
use Rattle.protocol.specs.Table.{Suffix}
use Rattle.protocol.specs.Rules.{Node, Nodes, Object, Rules}
use Rattle.protocol.specs.State.{Tx, Tx-discrete, committed, State, Keeps}
use Rattle.protocol.specs.Chain.{Entry}
use Rattle.protocol.specs.Replay.{replay, turn, last_value, given_to, committed?}
use Rattle.protocol.specs.Claims.{Sourced, AppliedIn, AllApplied, MeetsAll, Newest, Claims}
use Rattle.protocol.specs.Invariant.{effect, Inv}
use Rattle.protocol.specs.Proof.Tables.{clash}
use Rattle.protocol.proofs.Tables.{on}
use Rattle.protocol.proofs.Lists.{suffix_whole, suffix_tail, in_suffix, in_front, times_none, times_once, given_at_lem}
use Rattle.protocol.proofs.Lists.{replay_committed_of, select_all}
use Rattle.protocol.proofs.Commit.{good_participants, chain_end}

module _ {A : Type 0} (R : Rules A) (σ : State A) (iv : Inv R σ) where
  abbrev decided : List Tx
  decided = σ.history.decisions

  -- among the decisions all are committed, so their effects are their turns
  pub decided_replay : (m : List Tx) (o : Object) → Suffix m decided → replay R.blank (effect σ.history) m o ≡ last_value R σ.history.contents m o
  decided_replay m o s = replay_committed_of σ.history R.blank m o
      ∙ ap (λ k. last_value R σ.history.contents k o) (select_all (committed? σ.history) m (λ x i. iv.order.o_committed x (in_suffix x m decided s i)))

  pub serial_before : (x : Tx) (m : List Tx) (o : Object) → Suffix (x ∷ m) decided → Keeps R σ.history.contents x o
      → (σ.history.contents x).found o ≡ last_value R σ.history.contents m o
  serial_before x m o s c = let t = suffix_tail x m decided s in
      (iv.chain.c_found x o (R.keeps_touched ((σ.history.contents x).mode o) c)).1
      ∙ ap (σ.chain.entry o) (iv.order.o_found x m o s c) ∙ iv.order.o_value m o t ∙ decided_replay m o t

  serial : (x : Tx) (o : Object) → σ.history.phase x ≡ committed → Keeps R σ.history.contents x o
      → (σ.history.contents x).found o ≡ given_to R σ.history.contents x decided o
  serial x o p c = let z = in_front x decided (iv.order.o_decided x p) in
      serial_before x z.0 o z.1 c ∙ sym (given_at_lem Tx-discrete R.blank (turn σ.history.contents) x decided z.0 o z.1 (iv.order.o_once x))

  pub entry_sourced : (o : Object) (i : ℕ) (a : A) → Entry σ.chain o i a → Sourced R σ.history o a
  entry_sourced o i a e = subst (Sourced R σ.history o) (sym e.1) (iv.chain.c_source o i e.0)

  -- each newest copy in such a set is the chain's last entry
  pub newest_version : (q : Nodes) → AppliedIn σ.votes σ.history q → (n : Node) (o : Object) → Newest σ.store q n o
      → σ.store.version n o ≡ σ.chain.length o
  newest_version q done n o top = let e = (iv.chain.c_copy n o).0 in on (chain_end R σ.history σ.chain iv.order o)
      (λ z. omega arith)
      (λ z. let d = done z.0 z.1 in let a = iv.holds.h_applied d.0 z.0 o d.2 z.2 in let b = top d.0 d.1 in let c = z.3 in
      omega arith)

  newest_in : (q : Nodes) → AppliedIn σ.votes σ.history q → (n : Node) (o : Object) → Newest σ.store q n o
      → σ.store.value n o ≡ last_value R σ.history.contents decided o
  newest_in q done n o top = (iv.chain.c_copy n o).1 ∙ ap (σ.chain.entry o) (newest_version q done n o top ∙ iv.order.o_length o)
      ∙ iv.order.o_value decided o (suffix_whole decided) ∙ decided_replay decided o (suffix_whole decided)

  pub all_applied_in : AllApplied σ.votes σ.history → (q : Nodes) → MeetsAll σ.history q → AppliedIn σ.votes σ.history q
  all_applied_in all q meets x p = let z = meets x p in (z.0, z.1.0, all x z.0 p z.1.1)

  pub committed_good : (x : Tx) → σ.history.phase x ≡ committed → R.Good (σ.history.contents x).participants
  committed_good x p = good_participants R σ.ends σ.votes σ.history iv.votes x (λ e. clash (cc)) (λ e. clash (cc))

  pub claims : Claims R σ
  claims = record {
    once = λ x p. times_once Tx-discrete x decided (iv.order.o_decided x p) (iv.order.o_once x);
    only = λ x a. times_none Tx-discrete x decided (λ i. a (iv.order.o_committed x i));
    serial = serial;
    found = λ x o t. entry_sourced o ((σ.history.contents x).version o) ((σ.history.contents x).found o) (iv.chain.c_found x o t);
    sent = λ c i. entry_sourced c.object c.version c.value (iv.chain.c_sent c i);
    stored = λ n o. entry_sourced o (σ.store.version n o) (σ.store.value n o) (iv.chain.c_copy n o);
    newest_in = newest_in;
    newest = λ all q meets. newest_in q (all_applied_in all q meets);
  }
