-- `replay::take_all`: what is left to be taken from the sheet as it is now is what was to be taken at first.
use mathlib.Core.Path.{◌≡◌, refl, sym, ap, ap₂, ◌∙◌}
use mathlib.Core.List.{List}
use Prim.Native.Nat.{ℕ, ◌+◌, ◌-◌}
use native.Mathlib.Omega.{arith}
use Rattle.numbers.specs.Sizes.{objects}
use Rattle.replay.specs.Sheet.{all_taken}
use Rattle.replay.proofs.Steps.{taken_step}
use Rattle.replay.proofs.take_all.Goals as goal

pub loop-t-init : goal.loop-t-init
loop-t-init c = (refl, refl)

pub loop-t-preserved : goal.loop-t-preserved
loop-t-preserved c = let l = c.loop-t in
    let k = c.take in
    let o = c.args.o in
    let e : objects - (l.t + 1) ≡ objects - l.t - 1 = omega arith in (
      k.auto.sheet ∙ l.invariant.0,
      ap₂ (λ (n : ℕ) (d : List ℕ). all_taken n d o (l.t + 1)) e k.ensures
          ∙ taken_step (objects - l.t) l.sheet o l.t (omega arith) ∙ l.invariant.1,
    )

pub returns : goal.returns
unfolding all_taken
returns c = let l = c.loop-t in
    let e : objects - l.t ≡ 0 = omega arith in
    ap (λ (n : ℕ). all_taken n l.sheet c.args.o l.t) (sym e) ∙ l.invariant.1
