-- `record::tell::timestamp`: the field.
use mathlib.Core.Path.{ap}
use Rattle.coordinator.specs.declared.Coordinator.{Coordinator}
use Rattle.record.proofs.tell.timestamp.Goals as goal

pub returns : goal.returns
returns c = ap (λ (x : Coordinator). x.timestamp) c.shown-c.ensures
