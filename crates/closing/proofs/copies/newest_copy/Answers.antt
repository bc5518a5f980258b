-- `closing::copies::newest_copy`: the newest of the nodes passed.
use mathlib.Core.Path.{◌≡◌, refl, sym, ap, ap₂, ◌∙◌}
use mathlib.Core.List.{List}
use Prim.Native.Nat.{ℕ, ◌+◌}
use native.Mathlib.Numerals.{add-one}
use Rattle.closing.specs.Copies.{newer_of, copy_at, newest_of}
use Rattle.closing.proofs.copies.newest_copy.Goals as goal

newest_more : (l : List ℕ) (t n : ℕ) → newest_of l t (n + 1) ≡ newer_of (newest_of l t n) (copy_at l t n)
unfolding newest_of
newest_more l t n = ap (newest_of l t) (add-one n)

pub loop-i-init : goal.loop-i-init
unfolding newest_of
loop-i-init c = refl

pub loop-i-preserved : goal.loop-i-preserved
loop-i-preserved c =
    let l = c.loop-i in
    let x = c.args in
    c.newer-b.ensures ∙ ap₂ newer_of l.invariant c.copy_at.ensures ∙ sym (newest_more x.images.now x.object l.i)
