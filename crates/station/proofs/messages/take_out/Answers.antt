-- `station::messages::take_out`: removed, or as it was.
use mathlib.Core.Path.{sym, ap, ◌∙◌}
use Rattle.station.proofs.Waiting.{taken_out}
use borrow.Author.Tests.{not-true, not-false}
use mathlib.Core.Bool.{Bool, true, false, cond}
use Rattle.pool.specs.Change.{removed}
use Rattle.station.proofs.messages.take_out.Goals as goal

pub returns-then-not-kept : goal.returns-then-not-kept
returns-then-not-kept c = let x = c.args in
    let k = c.if-not-kept.true in
    c.remove.ensures.pool ∙ taken_out x.pool.now x.k c.requires.0 c.requires.1
    ∙ ap (λ (b : Bool). cond b x.pool.now (removed x.pool.now x.k)) (sym k)

pub returns-else-not-kept : goal.returns-else-not-kept
returns-else-not-kept c = let x = c.args in
    let k = c.if-not-kept.false in
    ap (λ (b : Bool). cond b x.pool.now (removed x.pool.now x.k)) (sym k)
