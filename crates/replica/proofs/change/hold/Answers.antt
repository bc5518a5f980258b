-- `replica::change::hold`: the copies of the entries passed are held, and the rest is to be.
use mathlib.Core.Path.{refl, sym, ap, ◌∙◌}
use native.Mathlib.Omega.{arith}
use Rattle.wire.specs.Decode.{decode}
use Rattle.wire.specs.Decode.{owner_of}
use Rattle.replica.specs.Steps.{holding}
use Rattle.judge.proofs.Passes.{rest_first}
use Rattle.replica.proofs.Passes.{holding_again, holding_end}
use Rattle.replica.proofs.change.hold.Goals as goal

pub loop-i-init : goal.loop-i-init
loop-i-init c = let x = c.args in
    (refl, ap (holding x.image.now (owner_of x.message.now)) (rest_first x.message.now))

pub loop-i-preserved : goal.loop-i-preserved
loop-i-preserved c = let l = c.loop-i in
    let x = c.args in
    let k = c.hold_one in
    let h = sym (holding_again l.image x.message.now (owner_of x.message.now) l.i (omega (arith, c.entries-i-end.ensures.0))) ∙ l.invariant.1 in (
      k.auto.image ∙ l.invariant.0,
      rw (k.ensures, c.nth_entry.ensures, c.owner-o.ensures) h,
    )

pub returns : goal.returns
unfolding decode
returns c = let l = c.loop-i in
    let x = c.args in
    sym (holding_end l.image x.message.now (owner_of x.message.now) l.i (omega (arith, c.entries-i-end.ensures.0))) ∙ l.invariant.1
