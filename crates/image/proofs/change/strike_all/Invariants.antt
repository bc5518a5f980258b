-- `image::change::strike_all`: the owner has left the lists of the objects passed.
use mathlib.Core.Path.{◌≡◌}
use Rattle.image.proofs.Whole.{strucks}
use Rattle.image.proofs.change.strike_all.Given as goal

abbrev pub invariant-loop-t : goal.invariant-loop-t
invariant-loop-t l = l.image ≡ strucks l.o l.t l.initial.image
