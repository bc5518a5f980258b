-- `intake::set_owners`: what is kept of the owners passed is set.
use mathlib.Core.Path.{refl, sym}
use Rattle.intake.specs.Take.{owner_as, with_owners_as}
use Rattle.intake.specs.Pass.{shape_of}
use Rattle.intake.proofs.Taken.{owners_more}
use Rattle.intake.proofs.set_owners.Goals as goal

pub loop-o-init : goal.loop-o-init
unfolding with_owners_as
loop-o-init c = refl

pub loop-o-preserved : goal.loop-o-preserved
loop-o-preserved c = let l = c.loop-o in
    let x = c.args in
    let k = c.set_owner in
    let owners = owner_as (shape_of x.s) x.old.now in
    rw (k.ensures, c.old_owner.ensures, l.invariant) (sym (owners_more owners l.o x.image.now))
