-- `intake::set_owners`: what is kept of the owners passed is set.
use mathlib.Core.Path.{◌≡◌}
use Rattle.intake.specs.Take.{owner_as, with_owners}
use Rattle.intake.specs.Pass.{shape_of}
use Rattle.intake.proofs.set_owners.Given as goal

abbrev pub invariant-loop-o : goal.invariant-loop-o
invariant-loop-o l = l.image ≡ with_owners (owner_as (shape_of l.s) l.old) l.o l.initial.image
