-- `record::store::put_objects`: storing what is left from here on gives what storing all of it gives.
use Prim.Native.Nat.{◌+◌, ◌*◌}
use mathlib.Core.Path.{◌≡◌}
use lib.ListN.{drop}
use lib.Seq.{sets}
use Rattle.wire.specs.Encode.{together}
use Rattle.record.specs.Record.{object_bytes}
use Rattle.record.proofs.store.put_objects.Given as goal

abbrev pub invariant-loop-i : goal.invariant-loop-i
invariant-loop-i l =
    sets l.bytes (43 + 25 * l.i) (together (object_bytes) (drop l.i l.list)) ≡ sets l.initial.bytes 43 (together (object_bytes) l.list)
