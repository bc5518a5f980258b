-- `classes::weigh`: the sum of a class so far with the weights of the class from here on is that of all; each weight adds at most 65,535.
use mathlib.Core.Path.{◌≡◌, refl, sym, ap, ap₂, ◌∙◌}
use mathlib.Core.List.{List, ◌∷◌}
use Prim.Native.Nat.{ℕ, ◌+◌, ◌-◌, ◌*◌, ◌<◌}
use native.Mathlib.Omega.{arith}
use lib.ListN.{get_or, replicate, get_or-replicate, length-set}
use Rattle.octets.specs.Octets.{get}
use Rattle.wire.specs.Decode.{items_from}
use Rattle.wire.proofs.Accepted.{items_step, items_end}
use Rattle.classes.specs.Classes.{most_classes, bounds}
use Rattle.classes.specs.Weights.{weight_count, weights, weighed}
use Rattle.classes.proofs.Laws.{sum_turn, sum_room, up_all}
use Rattle.classes.proofs.weigh.Goals as goal

pub loop-i-init : goal.loop-i-init
unfolding weights
loop-i-init c = let x = c.args in
    let z : (i : ℕ) → i < 8 → ◌≡◌ {A = ℕ} (get_or (replicate 8 0) i 0) 0 = λ i h. get_or-replicate 8 i 0 0 h in
    let m : weight_count x.list.now - 0 ≡ weight_count x.list.now = omega arith in (
      refl,
      (λ i h. let a = z i h in
          let b = ap (λ (n : ℕ). weighed (bounds x.kept.now) i (items_from (get 2) 2 n x.list.now 2)) m in
          omega (arith, a, b)),
      λ i h. let e = z i h in omega (arith, e),
    )

pub loop-i-preserved : goal.loop-i-preserved
loop-i-preserved c = let l = c.loop-i in
    let x = c.args in
    let k = x.kept.now in
    let t = x.list.now in
    let n = c.weight_count-i-end.ensures.0 in
    let w = c.from-w.result in
    let g = c.from-w.ensures ∙ c.get_u16.ensures in
    let r = c.class_of.result in
    let left = weight_count t - l.i in
    let same = c.class_of.ensures.0 ∙ c.row_of-row.ensures w (omega arith) in
    let e = items_step (get 2) 2 t left (2 + 2 * l.i) (omega arith) in
    let rest = items_from (get 2) 2 (left - 1) t (2 + 2 * l.i + 2) in
    let again : items_from (get 2) 2 (weight_count t - (l.i + 1)) t (2 + 2 * (l.i + 1)) ≡ rest =
    ap₂ (λ (m p : ℕ). items_from (get 2) 2 m t p) (omega arith) (omega arith) in
    let full = l.invariant.0 in (
      length-set l.sums r _ ∙ full,
      (λ i h. sum_turn (bounds k) l.sums r w i _ _ _ (omega arith) same
          (e ∙ ap₂ (λ (v : ℕ) (s : List ℕ). v ∷ s) (sym g) (sym again)) (l.invariant.1 i h)),
      λ i h. sum_room (bounds k) l.sums r w i l.i (omega arith) (omega arith) (l.invariant.2 i h),
    )

pub returns : goal.returns
unfolding weighed
returns c = let l = c.loop-i in
    let x = c.args in
    let k = x.kept.now in
    let t = x.list.now in
    let n = c.weight_count-i-end.ensures.0 in
    let e = items_end (get 2) 2 t (weight_count t - l.i) (2 + 2 * l.i) (omega arith) in
    up_all (λ (i : ℕ). weighed (bounds k) i (weights t)) most_classes l.sums l.invariant.0
    (λ i h. let a = l.invariant.1 i h in let b = ap (weighed (bounds k) i) e in omega (arith, a, b))
