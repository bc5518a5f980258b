-- `record::tell::count`: the field.
use mathlib.Core.Path.{ap}
use Rattle.coordinator.specs.declared.Coordinator.{Coordinator}
use Rattle.record.proofs.tell.count.Goals as goal

pub returns : goal.returns
returns c = ap (λ (x : Coordinator). x.count) c.shown-c.ensures
