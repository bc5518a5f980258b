-- `coordinator::calls::with_begun`: field by field, and the rest is that of an idle record.
use Rattle.coordinator.specs.State.{idle_after}
use Rattle.coordinator.specs.Calls.{begun}
use Rattle.coordinator.proofs.calls.with_begun.Goals as goal

pub returns : goal.returns
unfolding begun idle_after
returns c = simp c.idle_with-idle.ensures
