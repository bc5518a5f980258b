-- `classes::rises`: whether the bounds rise so far and from here on is whether all do.
use mathlib.Core.Path.{◌≡◌}
use Prim.Native.Nat.{◌+◌, ◌-◌, ◌*◌}
use Rattle.octets.specs.Octets.{get}
use Rattle.wire.specs.Decode.{items_from}
use Rattle.classes.specs.Classes.{bound_count, bounds, rising}
use Rattle.classes.proofs.rises.Given as goal

abbrev pub invariant-loop-i : goal.invariant-loop-i
invariant-loop-i l = rising l.low (items_from (get 2) 2 (bound_count l.list - l.i) l.list (1 + 2 * l.i)) ≡ rising 0 (bounds l.list)
