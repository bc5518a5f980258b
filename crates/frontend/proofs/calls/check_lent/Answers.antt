-- `frontend::calls::check_lent`: the lower of the two.
use mathlib.Core.Path.{ap₂, ◌∙◌}
use Rattle.numbers.specs.Refusal.{lower}
use Rattle.frontend.specs.Plan.{lent_number}
use Rattle.frontend.proofs.calls.check_lent.Goals as goal

pub returns : goal.returns
unfolding lent_number
returns c = c.first_refusal.ensures ∙ ap₂ lower c.check.ensures c.check-2.ensures
