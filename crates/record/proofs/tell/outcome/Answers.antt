-- `record::tell::outcome`: the field.
use mathlib.Core.Path.{ap}
use Rattle.coordinator.specs.declared.Coordinator.{Coordinator}
use Rattle.record.proofs.tell.outcome.Goals as goal

pub returns : goal.returns
returns c = ap (λ (x : Coordinator). x.outcome) c.shown-c.ensures
