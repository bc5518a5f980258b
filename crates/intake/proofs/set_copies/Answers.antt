-- `intake::set_copies`: the copies of the objects passed are set.
use mathlib.Core.Path.{refl, sym}
use Rattle.intake.specs.Take.{copy_as, with_copies_as}
use Rattle.intake.specs.Pass.{shape_of}
use Rattle.intake.proofs.Taken.{copies_more}
use Rattle.intake.proofs.set_copies.Goals as goal

pub loop-t-init : goal.loop-t-init
unfolding with_copies_as
loop-t-init c = refl

pub loop-t-preserved : goal.loop-t-preserved
loop-t-preserved c = let l = c.loop-t in
    let x = c.args in
    let k = c.set_copy in
    let copies = copy_as (shape_of x.s) x.old.now in
    rw (k.ensures, c.old_copy.ensures, l.invariant) (sym (copies_more copies l.t x.image.now))
