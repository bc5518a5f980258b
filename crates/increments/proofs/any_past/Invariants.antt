-- `increments::any_past`: whether each new value from place i on fits is whether all do.
use Rattle.std.proofs.Common.{◌≡◌}
use Rattle.record.specs.Record.{record_of}
use Rattle.increments.proofs.Turns.{fits_from}
use Rattle.increments.proofs.any_past.Given as goal

abbrev pub invariant-loop-i : goal.invariant-loop-i
invariant-loop-i l = fits_from (record_of l.bytes) l.n l.i ≡ fits_from (record_of l.bytes) l.n 0
