-- `image::change::set_all`: the objects passed have the number.
use mathlib.Core.Path.{◌≡◌}
use Rattle.image.specs.Field.{changed_all}
use Rattle.image.proofs.change.set_all.Given as goal

abbrev pub invariant-loop-t : goal.invariant-loop-t
invariant-loop-t l = l.image ≡ changed_all l.f (λ a. l.v) l.t l.initial.image
