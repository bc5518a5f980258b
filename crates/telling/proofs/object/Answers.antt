-- `telling::object`: nothing, or both things.
use mathlib.Core.Path.{ap, ◌∙◌}
use mathlib.Core.List.{List}
use Prim.Native.Nat.{ℕ}
use borrow.Author.Tests.{eq-eqb, ne_eqb}
use Rattle.replay.specs.Sheet.{valued_after}
use Rattle.telling.specs.Telling.{object_told}
use Rattle.telling.proofs.object.Goals as goal

pub returns-then-x-eq0 : goal.returns-then-x-eq0
unfolding object_told
returns-then-x-eq0 c = simp (eq-eqb _ _ c.if-x-eq0.true)

pub returns : goal.returns
unfolding object_told
returns c = let a = c.args in
    simp (ne_eqb _ _ c.if-x-eq0.false)
    (c.valued.ensures.sheet ∙ ap (λ (l : List ℕ). valued_after l a.node a.x.object a.x.new) c.mark.ensures)
