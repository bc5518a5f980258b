-- What is asked of a station's quorums, whatever they are. The tree has it.
use Rattle.std.specs.Prelude.{◌≡◌, true, ℕ}
use Rattle.mask.specs.Mask.{contains}
use Rattle.coordinator.specs.System.{System}
use Rattle.clauses.proofs.Quorums.{Quorums}
use Rattle.protocol.specs.Rules.{root, Common}

-- A choice that is there is a quorum of nodes 0 to 12; no quorum is empty; a larger set than a write quorum is one (`choices`). Every write quorum has the
-- root, and meets every read quorum.
pub record Sane (s : System) : Type 0 where
  pub choices : Quorums s
  pub root_in : (m : ℕ) → s.is_write m ≡ true → contains m root ≡ true
  pub meet : (a b : ℕ) → s.is_read a ≡ true → s.is_write b ≡ true → (n : ℕ) × Common (contains a) (contains b) n
