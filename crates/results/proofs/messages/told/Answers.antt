-- `results::messages::told`: by the kind.
use borrow.Author.Tests.{eq-eqb, ne_eqb}
use Rattle.results.specs.Told.{sheet_told}
use Rattle.results.proofs.messages.told.Goals as goal

pub returns-in-Begin : goal.returns-in-Begin
unfolding sheet_told
returns-in-Begin c = simp c.in-Begin.is c.begun.ensures.sheet

pub returns-in-Batch : goal.returns-in-Batch
unfolding sheet_told
returns-in-Batch c = simp c.in-Batch.is c.begun-in-Batch.ensures.sheet

pub returns-in-OpenRead : goal.returns-in-OpenRead
unfolding sheet_told
returns-in-OpenRead c = simp c.in-OpenRead.is c.opened.ensures.sheet

pub returns-in-OpenWrite : goal.returns-in-OpenWrite
unfolding sheet_told
returns-in-OpenWrite c = simp c.in-OpenWrite.is c.opened-in-OpenWrite.ensures.sheet

pub returns-in-SetValue : goal.returns-in-SetValue
unfolding sheet_told
returns-in-SetValue c = simp c.in-SetValue.is c.valued.ensures.sheet

pub returns-then-answer-eq-COMMITTED : goal.returns-then-answer-eq-COMMITTED
unfolding sheet_told
returns-then-answer-eq-COMMITTED c = simp (c.in-Deliver.is, eq-eqb _ _ c.if-answer-eq-COMMITTED.true)
    c.committed.ensures.sheet

pub returns-else-answer-eq-COMMITTED : goal.returns-else-answer-eq-COMMITTED
unfolding sheet_told
returns-else-answer-eq-COMMITTED c = simp (c.in-Deliver.is, ne_eqb _ _ c.if-answer-eq-COMMITTED.false)

pub returns-in-Found : goal.returns-in-Found
unfolding sheet_told
returns-in-Found c = simp c.in-Found.is

pub returns-in-Reselect : goal.returns-in-Reselect
unfolding sheet_told
returns-in-Reselect c = simp c.in-Reselect.is

pub returns-in-RequestCommit : goal.returns-in-RequestCommit
unfolding sheet_told
returns-in-RequestCommit c = simp c.in-RequestCommit.is

pub returns-in-Abort : goal.returns-in-Abort
unfolding sheet_told
returns-in-Abort c = simp c.in-Abort.is

pub returns-in-LoadHours : goal.returns-in-LoadHours
unfolding sheet_told
returns-in-LoadHours c = simp c.in-LoadHours.is

pub returns-in-LoadClasses : goal.returns-in-LoadClasses
unfolding sheet_told
returns-in-LoadClasses c = simp c.in-LoadClasses.is

pub returns-in-Send : goal.returns-in-Send
unfolding sheet_told
returns-in-Send c = simp c.in-Send.is

pub returns-in-Drop : goal.returns-in-Drop
unfolding sheet_told
returns-in-Drop c = simp c.in-Drop.is

pub returns-in-Switch : goal.returns-in-Switch
unfolding sheet_told
returns-in-Switch c = simp c.in-Switch.is
