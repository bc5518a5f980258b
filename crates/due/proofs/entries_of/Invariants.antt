-- `due::entries_of`: what is gathered so far are the entries of the objects passed.
use mathlib.Core.Path.{◌≡◌}
use lib.ListN.{length}
use Rattle.numbers.specs.Sizes.{most_open}
use Rattle.due.proofs.Gather.{Gathers}
use Rattle.due.proofs.entries_of.Given as goal

abbrev pub invariant-loop-place : goal.invariant-loop-place
invariant-loop-place l = (length l.entries ≡ most_open) × Gathers l.objects l.place-items l.entries l.count l.place-index
