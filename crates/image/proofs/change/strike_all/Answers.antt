-- `image::change::strike_all`: the owner has left the lists of the objects passed.
use native.Mathlib.Omega.{arith}
use mathlib.Core.Path.{◌≡◌, refl}
use Rattle.image.specs.Field.{changed_all}
use Rattle.image.specs.Layout.{shape}
use Rattle.image.specs.Change.{leave, unlist}
use Rattle.image.proofs.Whole.{struck_next}
use Rattle.image.proofs.change.strike_all.Goals as goal

pub loop-t-init : goal.loop-t-init
unfolding changed_all
loop-t-init c = refl

pub loop-t-preserved : goal.loop-t-preserved
loop-t-preserved c = let l = c.loop-t in
    let k = c.strike_here in
    let x = c.args in
    let own = c.single-own.ensures in
    rw (k.ensures, own, l.invariant) (struck_next x.image.now x.o l.t)

pub returns : goal.returns
unfolding unlist leave
returns c = let l = c.loop-t in
    let e : l.t ≡ shape.objects = omega arith in
    rw e at l.invariant
