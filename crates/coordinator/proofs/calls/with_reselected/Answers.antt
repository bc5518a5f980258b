-- `coordinator::calls::with_reselected`: field by field.
use Rattle.coordinator.specs.Calls.{reselected}
use Rattle.coordinator.proofs.calls.with_reselected.Goals as goal

pub returns : goal.returns
unfolding reselected
returns c = simp c.contacted_after.ensures
