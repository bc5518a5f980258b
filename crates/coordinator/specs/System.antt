-- What a transaction needs of the quorums: a parameter of every definition. The tree is the one instance.
use Rattle.std.specs.Prelude.{Bool, List, ℕ}
use Rattle.quorum.specs.Choice.{Choice}
use Rattle.quorum.specs.declared.Kind.{Kind}
use Rattle.quorum.specs.declared.Kind.TheVariants.{Read, Write}
use Rattle.quorum.specs.Quorum.{is_quorum}
use Rattle.quorum.specs.Smallest.{smallest}
use Rattle.quorum.specs.Nearest.{nearest_of}

-- whether a set is a read quorum, or a write quorum, and the nearest quorums for an asker within the live nodes by the distances
pub record System : Type 0 where
  pub is_read : ℕ → Bool
  pub is_write : ℕ → Bool
  pub nearest_read : ℕ → ℕ → List ℕ → Choice
  pub nearest_write : ℕ → ℕ → List ℕ → Choice

abbrev pub nearest_in : Kind → ℕ → ℕ → List ℕ → Choice
nearest_in kind asker live distances = nearest_of asker live distances (smallest kind)

abbrev pub tree : System
tree = record { is_read = is_quorum Read; is_write = is_quorum Write; nearest_read = nearest_in Read; nearest_write = nearest_in Write }
