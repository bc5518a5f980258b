-- `record_due::duties::entries_in`: what is gathered so far are the entries of the objects below `lo`.
use Prim.Native.Nat.{◌≤◌}
use mathlib.Core.Path.{◌≡◌}
use lib.ListN.{length}
use Rattle.numbers.specs.Sizes.{objects, most_open}
use Rattle.due.specs.Gather.{Lists}
use Rattle.due.specs.Due.{entries_below}
use Rattle.record.specs.Record.{record_of}
use Rattle.record_due.proofs.Gather.{gathered}
use Rattle.record_due.proofs.duties.entries_in.Given as goal

abbrev pub invariant-loop-k : goal.invariant-loop-k
invariant-loop-k l = (length l.entries ≡ most_open) × ((l.lo ≤ objects) × Lists (gathered l.entries l.k) (entries_below (record_of l.bytes) l.lo))
