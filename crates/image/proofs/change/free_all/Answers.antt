-- `image::change::free_all`: the holders of the objects passed are freed.
use native.Mathlib.Omega.{arith}
use mathlib.Core.Path.{◌≡◌, refl, sym}
use Rattle.image.specs.Field.{changed_all}
use Rattle.image.specs.Layout.{shape, holder_field}
use Rattle.image.specs.Change.{freeing, free}
use Rattle.image.proofs.Lens.{all_more}
use Rattle.image.proofs.change.free_all.Goals as goal

pub loop-t-init : goal.loop-t-init
unfolding changed_all
loop-t-init c = refl

pub loop-t-preserved : goal.loop-t-preserved
loop-t-preserved c = let l = c.loop-t in
    let k = c.free_here in
    let x = c.args in rw (k.ensures, l.invariant) (sym (all_more (holder_field shape) (freeing x.o) l.t x.image.now))

pub returns : goal.returns
unfolding free
returns c = let l = c.loop-t in
    let e : l.t ≡ shape.objects = omega arith in
    rw e at l.invariant
