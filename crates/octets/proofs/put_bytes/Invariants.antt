-- `octets::put_bytes`: writing what is left from here on gives what writing all of it gives.
use Prim.Native.Nat.{◌+◌, ◌-◌}
use mathlib.Core.Path.{◌≡◌}
use Rattle.octets.specs.Octets.{put}
use Rattle.octets.proofs.put_bytes.Given as goal

abbrev pub invariant-loop-i : goal.invariant-loop-i
invariant-loop-i l = put (l.n - l.i) l.s (l.at + l.i) l.rest ≡ put l.n l.initial.s l.at l.v
