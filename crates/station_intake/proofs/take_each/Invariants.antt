-- `station_intake::take_each`: the parts passed are taken in.
use mathlib.Core.Path.{◌≡◌}
use Rattle.station_intake.specs.Pass.{after_parts}
use Rattle.station_intake.proofs.take_each.Given as goal

abbrev pub invariant-loop-n : goal.invariant-loop-n
invariant-loop-n l = l.images ≡ after_parts l.size l.old l.n l.initial.images
