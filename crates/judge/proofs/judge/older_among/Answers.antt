-- `judge::judge::older_among`: found so far is that of the owners passed.
use mathlib.Core.Path.{◌≡◌, refl, sym}
use native.Mathlib.Omega.{arith}
use Rattle.numbers.specs.Sizes.{nodes}
use Rattle.judge.specs.Judge.{some_below, older_in, older_among}
use Rattle.judge.proofs.Passes.{some_more}
use Rattle.judge.proofs.judge.older_among.Goals as goal

pub returns-then-rivals-eq0 : goal.returns-then-rivals-eq0
unfolding older_among some_below
returns-then-rivals-eq0 c = rw c.if-rivals-eq0.true

pub loop-r-init : goal.loop-r-init
unfolding some_below
loop-r-init c = refl

pub loop-r-preserved : goal.loop-r-preserved
loop-r-preserved c = let l = c.loop-r in
    let x = c.args in
    rw (c.either-found.ensures, c.older_in.ensures, l.invariant) (sym (some_more (older_in x.image.now x.rivals x.o) l.r))

pub returns : goal.returns
unfolding older_among
returns c = let l = c.loop-r in
    let e : l.r ≡ nodes = omega arith in
    rw e at l.invariant
