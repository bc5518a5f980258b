-- `classes::object_of`: the item of a place, or none.
use mathlib.Core.Path.{◌≡◌, sym, ap, ◌∙◌}
use Prim.Native.Nat.{ℕ, ◌+◌, ◌*◌}
use native.Mathlib.Omega.{arith}
use lib.ListN.{get_or}
use Rattle.classes.specs.Classes.{tally_place, tally_count, tally_at, tallies}
use Rattle.classes.proofs.Laws.{item_at, item_past}
use Rattle.classes.proofs.object_of.Goals as goal

pub returns-then-i-count : goal.returns-then-i-count
unfolding tallies
returns-then-i-count c = let x = c.args in
    let t = x.kept.now in
    let n = c.count.ensures.0 in
    let e : tally_place t + 1 + x.i ≡ tally_place t + 1 + 1 * x.i = omega arith in
    c.get_u8.ensures ∙ ap (λ (p : ℕ). get_or t (p + 1 + x.i) 0) c.objects_place.ensures.0 ∙ ap (λ (i : ℕ). get_or t i 0) e
    ∙ sym (item_at tally_at 1 t (tally_count t) (tally_place t + 1) x.i (omega (arith, n, c.if-i-count.true)))

pub returns : goal.returns
unfolding tallies
returns c = let x = c.args in
    let t = x.kept.now in
    let n = c.count.ensures.0 in
    sym (item_past tally_at 1 t (tally_count t) (tally_place t + 1) x.i (omega (arith, n, c.if-i-count.false)))
