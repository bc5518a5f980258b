-- `station_intake::may_take_each`: no part that was passed is refused.
use mathlib.Core.Path.{◌≡◌}
use Rattle.station_intake.specs.Pass.{first_number}
use Rattle.station_intake.proofs.may_take_each.Given as goal

abbrev pub invariant-loop-node : goal.invariant-loop-node
invariant-loop-node l = first_number l.size l.old l.node ≡ 0
