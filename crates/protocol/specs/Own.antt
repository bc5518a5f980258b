-- A station's own quorums (document 02, 2.9) as a second instance: any two write sets meet, and a yes holds what it touches.
-- Nothing of the core changes. Since a yes keeps all it touches, the core's claims are here about all that a transaction found.
use Rattle.std.specs.Prelude.{refl, ◌≢◌}
use Rattle.protocol.specs.Rules.{Node, Nodes, Common, unused, write, Rules}
use Rattle.protocol.specs.Proof.Yes.{write_used}

-- "Loading accepts them exactly when no set or list is empty, every read meets every write and every two writes meet."
pub record OwnQuorums : Type 1 where
  pub Read : Nodes → Type 0
  pub Write : Nodes → Type 0
  pub meet : (q p : Nodes) → Read q → Write p → (n : Node) × Common q p n
  pub meet_write : (p q : Nodes) → Write p → Write q → (n : Node) × Common p q n

abbrev pub own_rules : {A : Type 0} → A → OwnQuorums → Rules A
own_rules z T = record {
  blank = z;
  Good = T.Write;
  meet = T.meet_write;
  Keeps = λ m. m ≢ unused;
  keeps_write = write_used write refl;
  keeps_touched = λ m h. h;
}
