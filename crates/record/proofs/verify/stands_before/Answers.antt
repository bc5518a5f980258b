-- `record::verify::stands_before`: the places passed are tested.
use mathlib.Core.Path.{refl}
use Rattle.record.proofs.Valid.{before_more}
use Rattle.record.specs.Valid.{stands_before}
use Rattle.record.proofs.verify.stands_before.Goals as goal

pub loop-i-init : goal.loop-i-init
unfolding stands_before
loop-i-init c = refl

pub loop-i-preserved : goal.loop-i-preserved
loop-i-preserved c = let p = c.loop-i in
    let x = c.args in
    rw (before_more p.i x.bytes.now x.object) (rw p.invariant)
