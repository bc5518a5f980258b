-- The base's rules as an instance of Rules: write quorums of the tree, which all have the root; a yes holds what it writes.
use Rattle.std.specs.Prelude.{◌≡◌, refl, true}
use Rattle.protocol.specs.Rules.{Node, Nodes, root, Common, write, Rules}
use Rattle.protocol.specs.Proof.Yes.{write_used}

-- What the proof needs of the tree's quorums. "A larger set that contains one counts as one too."
pub record TreeQuorums : Type 1 where
  pub Read : Nodes → Type 0
  pub Write : Nodes → Type 0
  pub root_in : (p : Nodes) → Write p → p root ≡ true
  pub meet : (q p : Nodes) → Read q → Write p → (n : Node) × Common q p n

abbrev pub tree_rules : {A : Type 0} → A → TreeQuorums → Rules A
tree_rules z T = record {
  blank = z;
  Good = T.Write;
  meet = λ p q a b. (root, (T.root_in p a, T.root_in q b));
  Keeps = λ m. m ≡ write;
  keeps_write = refl;
  keeps_touched = write_used;
}
