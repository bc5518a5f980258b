-- `judge::judge::serials_of`: the serials of the owners passed.
use mathlib.Core.Path.{◌≡◌, refl, sym}
use native.Mathlib.Omega.{arith}
use lib.ListN.{length-set}
use Rattle.numbers.specs.Sizes.{nodes}
use Rattle.judge.specs.Judge.{named_below, serials_of}
use Rattle.judge.proofs.Passes.{named_more}
use Rattle.judge.proofs.judge.serials_of.Goals as goal

pub returns-then-rivals-eq0 : goal.returns-then-rivals-eq0
unfolding serials_of named_below
returns-then-rivals-eq0 c = rw c.if-rivals-eq0.true

pub loop-o-init : goal.loop-o-init
unfolding named_below
loop-o-init c = (refl, refl)

pub loop-o-preserved : goal.loop-o-preserved
loop-o-preserved c = let l = c.loop-o in
    let x = c.args in
    (simp length-set l.invariant.0, rw (c.from.ensures, c.named.ensures, l.invariant.1) (sym (named_more x.image.now x.rivals l.o)))

pub returns : goal.returns
unfolding serials_of
returns c = let l = c.loop-o in
    let e : l.o ≡ nodes = omega arith in
    rw e at l.invariant.1
