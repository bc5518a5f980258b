-- `pool::remove`: the slots behind moved down.
use mathlib.Core.Path.{◌≡◌, sym, ap, ap₂, ◌∙◌}
use mathlib.Core.List.{List}
use Prim.Native.Nat.{ℕ, ◌-◌, ◌*◌}
use lib.ListN.{set}
use borrow.Author.Tests.{eq-eqb}
use Rattle.pool.specs.Pool.{slot_size, slot_place}
use Rattle.pool.specs.Change.{moved, removed, remove_number, remove_after}
use Rattle.pool.proofs.remove.Goals as goal

pub returns-clause-pool : goal.returns-clause-pool
unfolding remove_after removed
returns-clause-pool c = let x = c.args in
    let l = x.pool.now in
    let e : remove_number l x.k ≡ 0 = sym c.in_ok-may_remove.ensures.number in
    let n = c.count-last.ensures.0 in
    let i = c.from-i.ensures in
    let s = c.slot_place.ensures ∙ ap slot_place i in
    simp (eq-eqb (remove_number l x.k) 0 e)
    (c.put_u8.ensures
    ∙ ap₂ (λ (d : List ℕ) (k : ℕ). set d 0 (k - 1))
    (c.move_down.ensures ∙ ap₂ (moved l) s (ap₂ (λ (a b : ℕ). slot_size * (a - 1 - b)) n i)) n)
