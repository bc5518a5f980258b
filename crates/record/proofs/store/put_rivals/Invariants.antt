-- `record::store::put_rivals`: storing what is left from here on gives what storing all of it gives.
use Prim.Native.Nat.{◌+◌, ◌*◌}
use mathlib.Core.Path.{◌≡◌}
use lib.ListN.{drop}
use lib.Seq.{sets}
use Rattle.wire.specs.Encode.{together}
use Rattle.octets.specs.Octets.{le}
use Rattle.record.proofs.store.put_rivals.Given as goal

abbrev pub invariant-loop-i : goal.invariant-loop-i
invariant-loop-i l =
    sets l.bytes (249 + 4 * l.i) (together (le 4) (drop l.i l.list)) ≡ sets l.initial.bytes 249 (together (le 4) l.list)
