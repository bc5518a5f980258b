-- `classes::rises`: whether the bounds rise from here on is whether all do.
use mathlib.Core.Path.{ap, ap₂, sym, ◌∙◌}
use mathlib.Core.List.{◌∷◌}
use mathlib.Core.Path.{◌≡◌}
use Prim.Native.Nat.{ℕ, ◌+◌, ◌-◌, ◌*◌}
use native.Mathlib.Omega.{arith}
use Rattle.octets.specs.Octets.{get}
use Rattle.wire.specs.Decode.{items_from}
use Rattle.wire.proofs.Accepted.{items_step, items_end}
use Rattle.classes.specs.Classes.{bound_count, bounds, rising}
use Rattle.classes.proofs.Laws.{rise_again, rise_stop}
use Rattle.classes.proofs.rises.Goals as goal
use Rattle.classes.proofs.rises.Goals.{then-bound-low-via-then-bound-low, then-bound-low-via-else-bound-low+then-bound-ge-TOO_HEAVY}

pub loop-i-init : goal.loop-i-init
unfolding bounds
loop-i-init c = let t = c.args.list.now in
    ap (λ (m : ℕ). rising 0 (items_from (get 2) 2 m t 1)) (let e : bound_count t - 0 ≡ bound_count t = omega arith in e)

pub returns-then-bound-low : goal.returns-then-bound-low
returns-then-bound-low c = let l = c.loop-i in
    let t = c.args.list.now in
    let n = c.bound_count-i-end.ensures.0 in
    let g = c.get_u16-bound.ensures in
    let e = items_step (get 2) 2 t (bound_count t - l.i) (1 + 2 * l.i) (omega arith) in
    rise_stop l.low (get 2 t (1 + 2 * l.i)) _ _ _ e
    (elim c.then-bound-low.branch [
      | then-bound-low-via-then-bound-low w ↦ λ h. omega (arith, g)
      | then-bound-low-via-else-bound-low+then-bound-ge-TOO_HEAVY w ↦ λ h. absurd (omega (arith, g))
    ])
    l.invariant

pub loop-i-preserved : goal.loop-i-preserved
loop-i-preserved c = let l = c.loop-i in
    let t = c.args.list.now in
    let n = c.bound_count-i-end.ensures.0 in
    let g = c.get_u16-bound.ensures in
    let e = items_step (get 2) 2 t (bound_count t - l.i) (1 + 2 * l.i) (omega arith) in
    ap₂ (λ (m p : ℕ). rising c.get_u16-bound.result (items_from (get 2) 2 m t p)) (omega arith) (omega arith)
    ∙ rise_again l.low c.get_u16-bound.result _ _ _
    (e ∙ ap (λ (b : ℕ). b ∷ items_from (get 2) 2 (bound_count t - l.i - 1) t (1 + 2 * l.i + 2)) (sym g)) (omega arith) (omega arith) l.invariant

pub returns : goal.returns
unfolding rising
returns c = let l = c.loop-i in
    let t = c.args.list.now in
    let n = c.bound_count-i-end.ensures.0 in
    ap (rising l.low) (sym (items_end (get 2) 2 t (bound_count t - l.i) (1 + 2 * l.i) (omega arith))) ∙ l.invariant
