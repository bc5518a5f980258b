-- `station::pools::drop`: the pool's own removal.
use mathlib.Core.Path.{ap, ◌∙◌}
use Prim.Native.Nat.{ℕ}
use Rattle.buffers.specs.Buffers.{answer_with}
use Rattle.station.proofs.Dropping.{drop_told_lem, drop_left}
use Rattle.station.proofs.pools.drop.Goals as goal

pub returns-clause-value : goal.returns-clause-value
returns-clause-value c = let x = c.args in
    let w = c.remove.ensures in
    c.refused.ensures ∙ ap (λ (n : ℕ). answer_with n 0) (c.number.ensures ∙ w.number) ∙ drop_told_lem x.pool.now x.k

pub returns-clause-pool_after : goal.returns-clause-pool_after
returns-clause-pool_after c = let x = c.args in
    let w = c.remove.ensures in
    w.pool ∙ drop_left x.pool.now x.k
