-- `increments::sum_all`: after i turns the bytes are those of the record after the first i sums.
use Rattle.coordinator.specs.System.{tree}
use Rattle.record.specs.Record.{record_of}
use Rattle.deeds.proofs.Held.{Holds}
use Rattle.increments.proofs.Summed.{sums_to}
use Rattle.increments.proofs.sum_all.Given as goal

abbrev pub invariant-loop-i : goal.invariant-loop-i
invariant-loop-i l = Holds l.bytes (sums_to tree (record_of l.initial.bytes) l.me l.i)
