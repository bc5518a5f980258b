-- `classes::weigh`: the sum of a class so far with the weights of the class from here on is that of all; each weight adds at most 65,535.
use mathlib.Core.Path.{◌≡◌}
use Prim.Native.Nat.{ℕ, ◌+◌, ◌-◌, ◌*◌, ◌≤◌, ◌<◌}
use lib.ListN.{length, get_or}
use Rattle.octets.specs.Octets.{get}
use Rattle.wire.specs.Decode.{items_from}
use Rattle.classes.specs.Classes.{most_classes, bounds}
use Rattle.classes.specs.Weights.{weight_count, weights, weighed}
use Rattle.classes.proofs.weigh.Given as goal

abbrev pub invariant-loop-i : goal.invariant-loop-i
invariant-loop-i l = (length l.sums ≡ most_classes)
    × ((j : ℕ) → j < 8 → get_or l.sums j 0 + weighed (bounds l.kept) j (items_from (get 2) 2 (weight_count l.list - l.i) l.list (2 + 2 * l.i))
    ≡ weighed (bounds l.kept) j (weights l.list))
    × ((j : ℕ) → j < 8 → get_or l.sums j 0 ≤ 65535 * l.i)
