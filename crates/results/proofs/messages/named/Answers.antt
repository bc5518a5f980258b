-- `results::messages::named`: by the kind.
use Rattle.report.specs.Page.{inks}
use Rattle.results.specs.Told.{named_texts}
use Rattle.results.proofs.messages.named.Goals as goal

pub returns-in-Deliver : goal.returns-in-Deliver
unfolding named_texts inks
returns-in-Deliver c = simp c.in-Deliver.is c.shown.ensures

pub returns-in-Drop : goal.returns-in-Drop
unfolding named_texts inks
returns-in-Drop c = simp c.in-Drop.is c.shown-in-Drop.ensures

pub returns-in-Begin : goal.returns-in-Begin
unfolding named_texts inks
returns-in-Begin c = simp c.in-Begin.is

pub returns-in-Batch : goal.returns-in-Batch
unfolding named_texts inks
returns-in-Batch c = simp c.in-Batch.is

pub returns-in-OpenRead : goal.returns-in-OpenRead
unfolding named_texts inks
returns-in-OpenRead c = simp c.in-OpenRead.is

pub returns-in-OpenWrite : goal.returns-in-OpenWrite
unfolding named_texts inks
returns-in-OpenWrite c = simp c.in-OpenWrite.is

pub returns-in-SetValue : goal.returns-in-SetValue
unfolding named_texts inks
returns-in-SetValue c = simp c.in-SetValue.is

pub returns-in-Found : goal.returns-in-Found
unfolding named_texts inks
returns-in-Found c = simp c.in-Found.is

pub returns-in-Reselect : goal.returns-in-Reselect
unfolding named_texts inks
returns-in-Reselect c = simp c.in-Reselect.is

pub returns-in-RequestCommit : goal.returns-in-RequestCommit
unfolding named_texts inks
returns-in-RequestCommit c = simp c.in-RequestCommit.is

pub returns-in-Abort : goal.returns-in-Abort
unfolding named_texts inks
returns-in-Abort c = simp c.in-Abort.is

pub returns-in-LoadHours : goal.returns-in-LoadHours
unfolding named_texts inks
returns-in-LoadHours c = simp c.in-LoadHours.is

pub returns-in-LoadClasses : goal.returns-in-LoadClasses
unfolding named_texts inks
returns-in-LoadClasses c = simp c.in-LoadClasses.is

pub returns-in-Send : goal.returns-in-Send
unfolding named_texts inks
returns-in-Send c = simp c.in-Send.is

pub returns-in-Switch : goal.returns-in-Switch
unfolding named_texts inks
returns-in-Switch c = simp c.in-Switch.is
