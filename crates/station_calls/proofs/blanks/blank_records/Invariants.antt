-- `station_calls::blanks::blank_records`: the records passed are blank.
use mathlib.Core.Path.{◌≡◌}
use Rattle.station_calls.specs.Calls.{records_blank}
use Rattle.station_calls.proofs.blanks.blank_records.Given as goal

abbrev pub invariant-loop-n : goal.invariant-loop-n
invariant-loop-n l = l.records ≡ records_blank l.n l.initial.records
