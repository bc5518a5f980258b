-- The cycle `best`, `best_pair`: twice the height, plus 1 for a pair, falls.
use Prim.Native.Nat.{◌+◌, ◌*◌}
use Rattle.quorum.proofs.+best_best_pair.Given as goal

abbrev pub decreases-best : goal.decreases-best
decreases-best l = 2 * l.height

abbrev pub decreases-best_pair : goal.decreases-best_pair
decreases-best_pair l = 2 * l.height + 1
