-- `quorum::keys_of`: each key written so far is that of its node by itself.
use Prim.Native.Nat.{ℕ, ◌≤◌, ◌<◌}
use mathlib.Core.Path.{◌≡◌}
use lib.ListN.{length, get_or}
use Rattle.numbers.specs.Sizes.{nodes}
use Rattle.quorum.specs.Levels.{alone_of}
use Rattle.quorum.specs.Key.{absent, Means, height_of}
use Rattle.quorum.proofs.keys_of.Given as goal

abbrev pub invariant-loop-i : goal.invariant-loop-i
invariant-loop-i l = (length l.keys ≡ nodes)
    × ((j : ℕ) → j < l.i → Means 65535 (get_or l.keys j 0) (alone_of l.asker l.live l.distances (height_of j) j) × (get_or l.keys j 0 ≤ absent))
