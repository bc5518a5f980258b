-- `coordinator::calls::with_opened`: field by field.
use Rattle.coordinator.specs.Calls.{opened}
use Rattle.coordinator.proofs.calls.with_opened.Goals as goal

pub returns : goal.returns
unfolding opened
returns c = simp (c.join.ensures, c.put-after.ensures)
