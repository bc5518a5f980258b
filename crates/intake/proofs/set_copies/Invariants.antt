-- `intake::set_copies`: the copies of the objects passed are set.
use mathlib.Core.Path.{◌≡◌}
use Rattle.intake.specs.Take.{copy_as, with_copies}
use Rattle.intake.specs.Pass.{shape_of}
use Rattle.intake.proofs.set_copies.Given as goal

abbrev pub invariant-loop-t : goal.invariant-loop-t
invariant-loop-t l = l.image ≡ with_copies (copy_as (shape_of l.s) l.old) l.t l.initial.image
