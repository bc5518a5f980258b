-- `due::places_of`: going down, each object is marked with the first of the places passed that has it.
use mathlib.Core.Path.{◌≡◌}
use lib.ListN.{length}
use Rattle.numbers.specs.Sizes.{objects as objectsEnd}
use Rattle.due.proofs.Gather.{Marks}
use Rattle.due.proofs.places_of.Given as goal

abbrev pub invariant-loop-i : goal.invariant-loop-i
invariant-loop-i l = (length l.places ≡ objectsEnd) × Marks l.places l.objects l.count l.i
