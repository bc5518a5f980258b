-- `record::verify::stands_before`: the places passed are tested.
use mathlib.Core.Path.{◌≡◌}
use Rattle.record.specs.Valid.{stands_before}
use Rattle.record.proofs.verify.stands_before.Given as goal

abbrev pub invariant-loop-i : goal.invariant-loop-i
invariant-loop-i l = l.found ≡ stands_before l.i l.bytes l.object
