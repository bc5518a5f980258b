-- `classes::row_of`: the bounds copied over the first places of the row.
use mathlib.Core.Path.{◌≡◌, sym, ap, ap₂, ◌∙◌}
use mathlib.Core.List.{List}
use Prim.Native.Nat.{ℕ, ◌+◌}
use native.Mathlib.Numerals.{add-one}
use native.Mathlib.Omega.{arith}
use lib.ListN.{get_or, set, replicate, length-set}
use lib.Seq.{paste, paste-suc}
use Rattle.octets.specs.Octets.{get}
use Rattle.wire.proofs.Accepted.{length_items}
use Rattle.classes.specs.Classes.{bound_count, bounds}
use Rattle.classes.proofs.Laws.{item_at, same_class}
use Rattle.classes.proofs.row_of.Goals as goal

pub loop-i-preserved : goal.loop-i-preserved
unfolding bounds
loop-i-preserved c = let l = c.loop-i in
    let k = c.args.kept.now in
    let n = c.bound_count-n.ensures.0 in
    let p = c.requires in
    let d : List ℕ = replicate 7 65536 in
    let m = length_items (get 2) 2 k (bound_count k) 1 in (
      ap₂ (λ (r : List ℕ) (v : ℕ). set r l.i v) l.invariant.0
          (c.from.ensures ∙ c.get_u16.ensures ∙ sym (item_at (get 2) 2 k (bound_count k) 1 l.i (omega (arith, n))))
          ∙ ap (λ (j : ℕ). set (paste d 0 (bounds k) l.i) j (get_or (bounds k) l.i 0)) (let e : l.i ≡ 0 + l.i = omega arith in e)
          ∙ paste-suc d 0 (bounds k) l.i 0 (omega (arith, n, p)) (omega (arith, n, m))
          ∙ ap (paste d 0 (bounds k)) (sym (add-one l.i)),
      length-set l.row l.i _ ∙ l.invariant.1,
    )

pub returns : goal.returns
returns c w = let l = c.loop-i in
    let k = c.args.kept.now in
    let n = c.bound_count-n.ensures.0 in
    same_class k l.row l.i w l.invariant.0 (omega (arith, n, c.loop-i-test.false))
