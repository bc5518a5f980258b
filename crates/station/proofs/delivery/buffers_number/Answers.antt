-- `station::delivery::buffers_number`: the lowest number of the four buffers.
use mathlib.Core.Path.{ap, ap₂, ◌∙◌}
use mathlib.Core.Bool.{Bool, cond}
use Rattle.numbers.specs.Refusal.{lower}
use Rattle.station.specs.Messages.{lengths_number}
use Rattle.station.proofs.delivery.buffers_number.Goals as goal

pub returns : goal.returns
unfolding lengths_number
returns c = c.lower-2.ensures
    ∙ ap₂ lower (c.refuse-short.ensures
    ∙ ap (λ (b : Bool). cond b 1 0) c.either.ensures)
    (c.lower.ensures ∙ ap₂ lower (c.number-waiting.ensures ∙ c.check.ensures) c.own_number.ensures)
