-- `octets::get_bytes`: from the last byte that is there to the first, what was read is the number of the bytes passed.
use Prim.Native.Nat.{◌+◌, ◌-◌, ◌^◌, ◌<◌}
use mathlib.Core.Path.{◌≡◌}
use Rattle.octets.specs.Octets.{get}
use Rattle.octets.proofs.get_bytes.Given as goal

abbrev pub invariant-loop-i : goal.invariant-loop-i
invariant-loop-i l = (l.acc ≡ get (l.n - l.i) l.s (l.at + l.i)) × (l.acc < 256 ^ (l.n - l.i))
