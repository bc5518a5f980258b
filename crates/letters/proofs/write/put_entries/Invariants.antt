-- `letters::write::put_entries`: storing the entries that are left from here on gives what storing all of them gives.
use mathlib.Core.Path.{◌≡◌}
use Prim.Native.Nat.{◌+◌, ◌*◌}
use lib.ListN.{drop}
use lib.Seq.{sets}
use Rattle.wire.specs.Decode.{entries_place}
use Rattle.wire.specs.Encode.{encode_entry, together}
use Rattle.letters.proofs.write.put_entries.Given as goal

abbrev pub invariant-loop-i : goal.invariant-loop-i
invariant-loop-i l = sets l.out (entries_place + 14 * l.i) (together encode_entry (drop l.i l.entry-items))
    ≡ sets l.initial.out entries_place (together encode_entry l.entry-items)
