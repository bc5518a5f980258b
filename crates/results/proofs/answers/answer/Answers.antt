-- `results::answers::answer`: by the kind.
use Rattle.report.specs.Page.{inks}
use Rattle.results.specs.Results.{answer_texts}
use Rattle.results.proofs.answers.answer.Goals as goal

pub returns-in-Begin : goal.returns-in-Begin
unfolding answer_texts inks
returns-in-Begin c = simp c.in-Begin.is c.number.ensures

pub returns-in-Batch : goal.returns-in-Batch
unfolding answer_texts inks
returns-in-Batch c = simp c.in-Batch.is c.number-in-Batch.ensures

pub returns-in-Reselect : goal.returns-in-Reselect
unfolding answer_texts inks
returns-in-Reselect c = simp c.in-Reselect.is c.number-in-Reselect.ensures

pub returns-in-RequestCommit : goal.returns-in-RequestCommit
unfolding answer_texts inks
returns-in-RequestCommit c = simp c.in-RequestCommit.is c.number-in-RequestCommit.ensures

pub returns-in-Found : goal.returns-in-Found
unfolding answer_texts inks
returns-in-Found c = simp c.in-Found.is c.value.ensures

pub returns-in-Abort : goal.returns-in-Abort
unfolding answer_texts inks
returns-in-Abort c = simp c.in-Abort.is c.brought.ensures

pub returns-in-Deliver : goal.returns-in-Deliver
unfolding answer_texts inks
returns-in-Deliver c = simp c.in-Deliver.is c.brought-in-Deliver.ensures

pub returns-in-OpenRead : goal.returns-in-OpenRead
unfolding answer_texts inks
returns-in-OpenRead c = simp c.in-OpenRead.is

pub returns-in-OpenWrite : goal.returns-in-OpenWrite
unfolding answer_texts inks
returns-in-OpenWrite c = simp c.in-OpenWrite.is

pub returns-in-SetValue : goal.returns-in-SetValue
unfolding answer_texts inks
returns-in-SetValue c = simp c.in-SetValue.is

pub returns-in-LoadHours : goal.returns-in-LoadHours
unfolding answer_texts inks
returns-in-LoadHours c = simp c.in-LoadHours.is

pub returns-in-LoadClasses : goal.returns-in-LoadClasses
unfolding answer_texts inks
returns-in-LoadClasses c = simp c.in-LoadClasses.is

pub returns-in-Send : goal.returns-in-Send
unfolding answer_texts inks
returns-in-Send c = simp c.in-Send.is

pub returns-in-Drop : goal.returns-in-Drop
unfolding answer_texts inks
returns-in-Drop c = simp c.in-Drop.is

pub returns-in-Switch : goal.returns-in-Switch
unfolding answer_texts inks
returns-in-Switch c = simp c.in-Switch.is
