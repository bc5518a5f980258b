-- `pool::blank`: zeros.
use mathlib.Core.Path.{refl, ap, ◌∙◌}
use Prim.Native.Nat.{ℕ}
use lib.ListN.{replicate}
use borrow.Author.Tests.{eq-eqb}
use Rattle.pool.specs.Change.{blank, blank_number, blank_after}
use Rattle.pool.proofs.blank.Goals as goal

pub returns-clause-pool : goal.returns-clause-pool
unfolding blank blank_number blank_after
returns-clause-pool c = let e = c.if-pool-ne-SIZE.false in
    simp (eq-eqb _ _ e) (c.zero.ensures ∙ ap (λ (n : ℕ). replicate n 0) e)
