-- `record::look::all_settled`: what holds from place i on is what holds from the first; one that is not settled decides it.
use mathlib.Core.Path.{◌≡◌}
use Rattle.record.proofs.Places.{settled_from}
use Rattle.record.proofs.look.all_settled.Given as goal

abbrev pub invariant-loop-i : goal.invariant-loop-i
invariant-loop-i l = settled_from l.bytes l.n l.i ≡ settled_from l.bytes l.n 0
