-- `record::verify::are_zero`: what was passed is 0, and what is left is to be.
use mathlib.Core.Path.{refl, ◌∙◌}
use native.Mathlib.Omega.{arith}
use Rattle.record.proofs.Zero.{zeros_next, zeros_end}
use Rattle.record.proofs.verify.are_zero.Goals as goal

pub loop-x-init : goal.loop-x-init
loop-x-init c = refl

pub loop-x-preserved : goal.loop-x-preserved
loop-x-preserved c = let p = c.loop-x in
    zeros_next p.ok c.args.bytes.now p.x-index (omega arith) ∙ p.invariant

pub returns : goal.returns
returns c = let p = c.loop-x in
    zeros_end p.ok c.args.bytes.now p.x-index (omega arith) p.invariant
