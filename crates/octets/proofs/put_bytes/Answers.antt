-- `octets::put_bytes`: writing what is left from here on gives what writing all of it gives.
use native.Mathlib.Omega.{arith}
use Prim.Native.Nat.{ℕ, ◌+◌, ◌-◌}
use mathlib.Core.Path.{◌≡◌, sym, ap, ◌∙◌}
use Rattle.octets.specs.Octets.{put}
use Rattle.octets.proofs.Laws.{put_step, put_zero, put_there}
use Rattle.octets.proofs.put_bytes.Goals as goal

pub loop-i-preserved : goal.loop-i-preserved
loop-i-preserved c =
    let l = c.loop-i in
    let n = c.there-n.result in
    let left : n - (l.i + 1) ≡ n - l.i - 1 = omega arith in
    let next : c.args.at + (l.i + 1) ≡ c.args.at + l.i + 1 = omega arith in
    rw (left, next) (sym (put_step (n - l.i) l.s (c.args.at + l.i) l.rest (omega arith)) ∙ l.invariant)

pub returns : goal.returns
returns c =
    let l = c.loop-i in
    let x = c.args in
    sym (put_zero (c.there-n.result - l.i) l.s (x.at + l.i) l.rest (omega arith)) ∙ l.invariant
    ∙ ap (λ (n : ℕ). put n x.s.now x.at x.v) c.there-n.ensures
    ∙ put_there x.k x.s.now x.at x.v
