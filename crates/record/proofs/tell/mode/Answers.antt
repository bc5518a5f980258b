-- `record::tell::mode`: the field of the object.
use mathlib.Core.Path.{ap}
use Rattle.coordinator.specs.declared.Object.{Object}
use Rattle.record.proofs.tell.mode.Goals as goal

pub returns : goal.returns
returns c = ap (λ (x : Object). x.mode) c.nth-x.ensures
