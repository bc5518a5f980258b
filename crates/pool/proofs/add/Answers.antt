-- `pool::add`: stored in the slot behind the last.
use mathlib.Core.Path.{◌≡◌, sym, ap, ap₂, ◌∙◌}
use mathlib.Core.List.{List}
use Prim.Native.Nat.{ℕ, ◌+◌}
use lib.ListN.{length, set}
use borrow.Author.Tests.{eq-eqb}
use Rattle.pool.specs.Pool.{slot_place}
use Rattle.pool.specs.Change.{stored, added, add_number, add_after}
use Rattle.pool.proofs.add.Goals as goal

pub returns-clause-pool : goal.returns-clause-pool
unfolding add_after added
returns-clause-pool c = let x = c.args in
    let l = x.pool.now in
    let m = x.message.now in
    let e : add_number l (length m) ≡ 0 = sym c.in_ok-may_add.ensures.number in
    let n = c.count-n.ensures.0 in
    let s = c.slot_place.ensures ∙ ap slot_place n in
    simp (eq-eqb (add_number l (length m)) 0 e)
    (c.put_u8.ensures
    ∙ ap₂ (λ (d : List ℕ) (k : ℕ). set d 0 (k + 1)) (c.store.ensures ∙ ap (λ (at : ℕ). stored l at m) s) n)
