-- `record_due::duties::next_open`: of the places passed, none has an object from `lo` up to the least number found.
use Prim.Native.Nat.{◌≤◌}
use Rattle.numbers.specs.Sizes.{objects}
use Rattle.record_due.proofs.Gather.{Past, Stands}
use Rattle.record_due.proofs.duties.next_open.Given as goal

abbrev pub invariant-loop-i : goal.invariant-loop-i
invariant-loop-i l = (l.lo ≤ l.m) × ((l.m ≤ objects) × (Past l.bytes l.lo l.m l.i × Stands l.bytes l.m l.i))
