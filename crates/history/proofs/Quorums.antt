-- The quorums of a station as the rules of the abstract protocol. A set of nodes counts as a quorum when it has every node of a mask that is one.
use mathlib.Core.Path.{◌≡◌}
use mathlib.Core.Bool.{Bool, true}
use Prim.Native.Nat.{ℕ}
use Rattle.mask.specs.Mask.{contains}
use Rattle.mask.proofs.Tests.{T_true}
use Rattle.quorum.proofs.Theorems.{root_in_write, read_meets_write}
use Rattle.coordinator.specs.System.{System, tree}
use Rattle.clauses.proofs.Parts.{true-T}
use Rattle.clauses.proofs.Quorums.{tree_quorums}
use Rattle.protocol.specs.Rules.{Nodes, root, Rules}
use Rattle.protocol.specs.Log.{RootInAll}
use Rattle.protocol.specs.Tree.{TreeQuorums, tree_rules}
use Rattle.history.specs.Sane.{Sane}

-- the tree is one
pub tree_sane : Sane tree
tree_sane = record {
  choices = tree_quorums;
  root_in = λ m w. T_true _ (root_in_write m (true-T _ w));
  meet = λ a b r w. let z = read_meets_write a b (true-T _ r) (true-T _ w) in (z.0, (T_true _ z.1, T_true _ z.2));
}

-- the set has every node of a mask that passes the test
pub record Has (test : ℕ → Bool) (p : Nodes) : Type 0 where
  pub mask : ℕ
  pub counts : test mask ≡ true
  pub all : (n : ℕ) → contains mask n ≡ true → p n ≡ true

pub of_mask : (test : ℕ → Bool) (m : ℕ) → test m ≡ true → Has test (contains m)
of_mask test m e = record { mask = m; counts = e; all = λ n h. h }

module _ {s : System} (sane : Sane s) where
  abbrev pub quorums : TreeQuorums
  quorums = record {
    Read = Has s.is_read;
    Write = Has s.is_write;
    root_in = λ p w. w.all root (sane.root_in w.mask w.counts);
    meet = λ q p r w. let z = sane.meet r.mask w.mask r.counts w.counts in (z.0, (r.all z.0 z.1.0, w.all z.0 z.1.1));
  }

  -- values are the 64 bits of a signed number, 0 at first
  abbrev pub rules : Rules ℕ
  rules = tree_rules 0 quorums

  pub top : RootInAll rules
  top = quorums.root_in
