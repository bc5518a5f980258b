-- `quorum::turns`: by the test.
use mathlib.Core.Path.{◌≡◌, sym, ap, ◌∙◌}
use mathlib.Core.Bool.{Bool, cond}
use Prim.Native.Nat.{ℕ, ◌-◌, ◌^◌}
use native.Mathlib.Omega.{arith}
use borrow.Author.Tests.{eq-eqb, ne_eqb}
use Rattle.quorum.proofs.Steps.{turn_count}
use Rattle.quorum.proofs.turns.Goals as goal

less_none : (n : ℕ) → n ≡ n - 0
less_none n = omega arith

pub returns-then-node-asker : goal.returns-then-node-asker
returns-then-node-asker c = let a = c.args in
    let t = turn_count a.height c.requires in (
      ap (λ (n : ℕ). n - 1) t.0 ∙ sym (ap (λ (b : Bool). 2 ^ a.height - cond b 1 0) (eq-eqb a.node a.asker c.if-node-asker.true)),
      omega (arith, t.0, t.2),
    )

pub returns-else-node-asker : goal.returns-else-node-asker
returns-else-node-asker c = let a = c.args in
    let t = turn_count a.height c.requires in (
      t.0 ∙ less_none (2 ^ a.height) ∙ sym (ap (λ (b : Bool). 2 ^ a.height - cond b 1 0) (ne_eqb a.node a.asker c.if-node-asker.false)),
      omega (arith, t.0, t.2),
    )
