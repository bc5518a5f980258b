-- `coordinator::common::idle_with`: field by field.
use mathlib.Core.Path.{refl}
use Rattle.coordinator.specs.State.{idle_after}
use Rattle.coordinator.proofs.common.idle_with.Goals as goal

pub returns : goal.returns
unfolding idle_after
returns c = refl
