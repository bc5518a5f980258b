-- `record::store::put_distances`: storing what is left from here on gives what storing all of it gives.
use Prim.Native.Nat.{◌+◌, ◌*◌}
use mathlib.Core.Path.{◌≡◌}
use lib.ListN.{drop}
use lib.Seq.{sets}
use Rattle.wire.specs.Encode.{together}
use Rattle.octets.specs.Octets.{le}
use Rattle.record.proofs.store.put_distances.Given as goal

abbrev pub invariant-loop-i : goal.invariant-loop-i
invariant-loop-i l =
    sets l.bytes (12 + 2 * l.i) (together (le 2) (drop l.i l.list)) ≡ sets l.initial.bytes 12 (together (le 2) l.list)
