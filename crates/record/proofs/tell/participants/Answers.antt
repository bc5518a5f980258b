-- `record::tell::participants`: the field.
use mathlib.Core.Path.{ap}
use Rattle.coordinator.specs.declared.Coordinator.{Coordinator}
use Rattle.record.proofs.tell.participants.Goals as goal

pub returns : goal.returns
returns c = ap (λ (x : Coordinator). x.participants) c.shown-c.ensures
