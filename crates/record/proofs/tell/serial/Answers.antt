-- `record::tell::serial`: the field.
use mathlib.Core.Path.{ap}
use Rattle.coordinator.specs.declared.Coordinator.{Coordinator}
use Rattle.record.proofs.tell.serial.Goals as goal

pub returns : goal.returns
returns c = ap (λ (x : Coordinator). x.serial) c.shown-c.ensures
