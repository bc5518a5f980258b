-- `image::change::set_all`: the objects passed have the number.
use mathlib.Core.Path.{refl, sym}
use Rattle.image.specs.Field.{changed_all}
use Rattle.image.proofs.Lens.{all_more}
use Rattle.image.proofs.change.set_all.Goals as goal

pub loop-t-init : goal.loop-t-init
unfolding changed_all
loop-t-init c = refl

pub loop-t-preserved : goal.loop-t-preserved
loop-t-preserved c =
    let l = c.loop-t in
    let x = c.args in
    rw (c.put_u8.ensures, l.invariant) (sym (all_more x.f (λ a. x.v) l.t x.image.now))
