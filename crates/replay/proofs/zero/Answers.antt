-- `replay::zero`: what is left to be zeroed of the sheet as it is now is what was to be zeroed at first.
use mathlib.Core.Path.{◌≡◌, sym, ap, ap₂, ◌∙◌}
use mathlib.Core.List.{List}
use Prim.Native.Nat.{ℕ, ◌+◌, ◌-◌}
use native.Mathlib.Omega.{arith}
use Rattle.replay.specs.Sheet.{zeroed}
use Rattle.replay.proofs.Steps.{zeroed_step}
use Rattle.replay.proofs.zero.Goals as goal

pub loop-i-preserved : goal.loop-i-preserved
loop-i-preserved c = let l = c.loop-i in
    let x = c.args in
    let k = c.store in
    let e : x.at + x.n - (l.i + 1) ≡ x.at + x.n - l.i - 1 = omega arith in (
      k.auto.sheet ∙ l.invariant.0,
      ap₂ (λ (n : ℕ) (d : List ℕ). zeroed n d (l.i + 1)) e k.ensures ∙ zeroed_step (x.at + x.n - l.i) l.sheet l.i (omega arith) ∙ l.invariant.1,
    )

pub returns : goal.returns
unfolding zeroed
returns c = let l = c.loop-i in
    let x = c.args in
    let e : x.at + x.n - l.i ≡ 0 = omega arith in
    ap (λ (n : ℕ). zeroed n l.sheet l.i) (sym e) ∙ l.invariant.1
