-- `image::change::free_any`: the holders of the objects passed are freed.
use mathlib.Core.Path.{◌≡◌}
use Rattle.image.specs.Field.{changed_all}
use Rattle.image.specs.Layout.{shape, holder_field}
use Rattle.image.specs.Change.{freeing}
use Rattle.image.proofs.change.free_any.Given as goal

abbrev pub invariant-loop-t : goal.invariant-loop-t
invariant-loop-t l = l.image ≡ changed_all (holder_field shape) (freeing l.o) l.t l.initial.image
