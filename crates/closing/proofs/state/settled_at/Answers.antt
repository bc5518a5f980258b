-- `closing::state::settled_at`: the two tests of the owner's record.
use mathlib.Core.Path.{ap, ap₂, ◌∙◌}
use mathlib.Core.Bool.{Bool, not, ◌||◌}
use Rattle.coordinator.specs.declared.Coordinator.{Coordinator}
use Rattle.closing.specs.State.{settled_with, settled_at}
use Rattle.closing.proofs.state.settled_at.Goals as goal

pub returns : goal.returns
unfolding settled_at settled_with
returns c = let x = c.args in
    c.either.ensures ∙ ap₂ (λ (d r : Bool). not d || r) c.decided.ensures c.released-free.ensures
    ∙ ap (λ (r : Coordinator). settled_with x.images.now r x.owner) c.record_at-c.ensures
