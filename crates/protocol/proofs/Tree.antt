-- The claims of the rules of specs/Tree, and the test of a yes.
use Rattle.std.specs.Prelude.{◌≡◌}
use Rattle.protocol.specs.Rules.{Node, Nodes, Object}
use Rattle.protocol.specs.State.{Tx, Contents, Ends, State, Writes, Touches, Held}
use Rattle.protocol.specs.Replay.{last_value}
use Rattle.protocol.specs.Transitions.{HeldAgainst, Run}
use Rattle.protocol.specs.Claims.{AllApplied, Newest, Claims}
use Rattle.protocol.specs.Log.{log, fed, BaseClaims}
use Rattle.protocol.proofs.Tables.{on}
use Rattle.protocol.proofs.Yes.{writes_touches}
use Rattle.protocol.proofs.Theorems.{safe, base_safe, base_newest, meets_all}
use Rattle.protocol.specs.Tree.{TreeQuorums, tree_rules}

module _ {A : Type 0} (z : A) (T : TreeQuorums) {σ : State A} (r : Run (tree_rules z T) σ) where
  -- demand 3's (b), and (c) and (0) in the order of the decisions
  pub tree_safe : Claims (tree_rules z T) σ
  tree_safe = safe r

  -- demand 3's (0) and (a)
  pub tree_base : BaseClaims (tree_rules z T) σ (log r)
  tree_base = base_safe T.root_in r

  -- demand 3's (c), for every set that counts as a read quorum
  pub tree_newest : AllApplied σ.votes σ.history → (q : Nodes) → T.Read q → (n : Node) (o : Object) → Newest σ.store q n o
      → σ.store.value n o ≡ last_value (tree_rules z T) σ.history.contents (fed σ (log r)) o
  tree_newest all q a = base_newest T.root_in r all q (meets_all r q (λ p. T.meet q p a))

-- The base's test of a yes, "any tally has another holder", is the whole test: who keeps an object writes it.
pub tree_free : {A : Type 0} (z : A) (T : TreeQuorums) (e : Ends) (k : Tx → Contents A) (n : Node) (x : Tx)
    → ((o : Object) (y : Tx) → Held e n y → Writes k y o → Touches k x o → ⊥) → (o : Object) (y : Tx) → HeldAgainst (tree_rules z T) e k n x y o → ⊥
tree_free z T e k n x free o y h = on h.1 (λ w. free o y h.0 w.0 w.1) (λ w. free o y h.0 w.0 (writes_touches k x o w.1))
