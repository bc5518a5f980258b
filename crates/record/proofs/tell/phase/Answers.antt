-- `record::tell::phase`: the field.
use mathlib.Core.Path.{ap}
use Rattle.coordinator.specs.declared.Coordinator.{Coordinator}
use Rattle.record.proofs.tell.phase.Goals as goal

pub returns : goal.returns
returns c = ap (λ (x : Coordinator). x.phase) c.shown-c.ensures
