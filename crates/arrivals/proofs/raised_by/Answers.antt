-- `arrivals::raised_by`: what is raised so far, and by the rivals left, is what all of them raise.
use Prim.Native.Nat.{◌-◌, ◌+◌}
use mathlib.Core.Path.{◌≡◌, sym, ◌∙◌}
use native.Mathlib.Omega.{arith}
use Rattle.wire.specs.Decode.{rival_count}
use Rattle.arrivals.proofs.Rivals.{raise_turn, raise_end}
use Rattle.arrivals.proofs.raised_by.Goals as goal

pub loop-i-preserved : goal.loop-i-preserved
loop-i-preserved c = let l = c.loop-i in
    let m = c.args.m.now in
    let n = c.rivals-i-end.ensures.0 in
    let e : rival_count m - (l.i + 1) ≡ rival_count m - l.i - 1 = omega arith in
    rw (c.raise.ensures, c.nth_rival.ensures, e) (sym (raise_turn m (rival_count m - l.i) l.i l.a (omega arith)) ∙ l.invariant)

pub returns : goal.returns
returns c = let l = c.loop-i in
    let m = c.args.m.now in
    let n = c.rivals-i-end.ensures.0 in
    sym (raise_end m (rival_count m - l.i) l.i l.a (omega arith)) ∙ l.invariant
