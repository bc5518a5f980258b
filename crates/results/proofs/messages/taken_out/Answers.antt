-- `results::messages::taken_out`: by the kind.
use Rattle.results.specs.Told.{taken_out}
use Rattle.results.proofs.messages.taken_out.Goals as goal

pub returns-then-kept : goal.returns-then-kept
unfolding taken_out
returns-then-kept c = simp (c.in-Deliver.is, c.if-kept.true)

pub returns-else-kept : goal.returns-else-kept
unfolding taken_out
returns-else-kept c = simp (c.in-Deliver.is, c.if-kept.false)

pub returns-in-Drop : goal.returns-in-Drop
unfolding taken_out
returns-in-Drop c = simp c.in-Drop.is

pub returns-in-Begin : goal.returns-in-Begin
unfolding taken_out
returns-in-Begin c = simp c.in-Begin.is

pub returns-in-Batch : goal.returns-in-Batch
unfolding taken_out
returns-in-Batch c = simp c.in-Batch.is

pub returns-in-OpenRead : goal.returns-in-OpenRead
unfolding taken_out
returns-in-OpenRead c = simp c.in-OpenRead.is

pub returns-in-OpenWrite : goal.returns-in-OpenWrite
unfolding taken_out
returns-in-OpenWrite c = simp c.in-OpenWrite.is

pub returns-in-SetValue : goal.returns-in-SetValue
unfolding taken_out
returns-in-SetValue c = simp c.in-SetValue.is

pub returns-in-Found : goal.returns-in-Found
unfolding taken_out
returns-in-Found c = simp c.in-Found.is

pub returns-in-Reselect : goal.returns-in-Reselect
unfolding taken_out
returns-in-Reselect c = simp c.in-Reselect.is

pub returns-in-RequestCommit : goal.returns-in-RequestCommit
unfolding taken_out
returns-in-RequestCommit c = simp c.in-RequestCommit.is

pub returns-in-Abort : goal.returns-in-Abort
unfolding taken_out
returns-in-Abort c = simp c.in-Abort.is

pub returns-in-LoadHours : goal.returns-in-LoadHours
unfolding taken_out
returns-in-LoadHours c = simp c.in-LoadHours.is

pub returns-in-LoadClasses : goal.returns-in-LoadClasses
unfolding taken_out
returns-in-LoadClasses c = simp c.in-LoadClasses.is

pub returns-in-Send : goal.returns-in-Send
unfolding taken_out
returns-in-Send c = simp c.in-Send.is

pub returns-in-Switch : goal.returns-in-Switch
unfolding taken_out
returns-in-Switch c = simp c.in-Switch.is
