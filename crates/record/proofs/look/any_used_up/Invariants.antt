-- `record::look::any_used_up`: what is found from place i on is what is found from the first; one that is used up decides it.
use mathlib.Core.Path.{◌≡◌}
use Rattle.record.proofs.Places.{used_up_from}
use Rattle.record.proofs.look.any_used_up.Given as goal

abbrev pub invariant-loop-i : goal.invariant-loop-i
invariant-loop-i l = used_up_from l.bytes l.n l.i ≡ used_up_from l.bytes l.n 0
