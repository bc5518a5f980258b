-- `record::look::place`: what is found from place i on is what is found from the first.
use mathlib.Core.Path.{◌≡◌}
use Rattle.record.proofs.Places.{place_from}
use Rattle.record.proofs.look.place.Given as goal

abbrev pub invariant-loop-i : goal.invariant-loop-i
invariant-loop-i l = place_from l.bytes l.n l.object l.i ≡ place_from l.bytes l.n l.object 0
