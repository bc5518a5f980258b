-- `station::delivery::is_blocked`: the answer is foretold only where a kept delivery finds the pool full.
use mathlib.Core.Path.{sym, ap, ◌∙◌}
use mathlib.Core.Bool.{Bool, true, false, ◌&&◌}
use Rattle.numbers.specs.Sizes.{longest_message}
use Rattle.replica.specs.Receive.{deliver, spoken}
use Rattle.pool.specs.Pool.{count, message_at}
use Rattle.buffers.specs.Buffers.{image_at}
use Rattle.station.specs.Messages.{blocked}
use Rattle.station.proofs.Waiting.{full_as}
use Rattle.station.proofs.delivery.is_blocked.Goals as goal

pub returns-then-both : goal.returns-then-both
unfolding blocked
returns-then-both c = let x = c.args in
    let f = ap (◌&&◌ x.kept) (full_as _ (count x.pool.now) c.count.ensures.0) in
    let t = sym f ∙ sym c.both.ensures ∙ c.if-both.true in
    c.will_answer.ensures
    ∙ ap (λ (b : Bool). b && spoken (deliver longest_message (image_at x.images.now x.node) x.node (message_at x.pool.now x.k)
    ).answer) (sym t)

pub returns-else-both : goal.returns-else-both
unfolding blocked
returns-else-both c = let x = c.args in
    let f = ap (◌&&◌ x.kept) (full_as _ (count x.pool.now) c.count.ensures.0) in
    let t = sym f ∙ sym c.both.ensures ∙ c.if-both.false in
    ap (λ (b : Bool). b && spoken (deliver longest_message (image_at x.images.now x.node) x.node (message_at x.pool.now x.k)).answer) (sym t)
