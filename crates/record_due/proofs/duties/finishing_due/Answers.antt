-- `record_due::duties::finishing_due`: an outcome, else a yield.
use Rattle.due.specs.Kind.{finishing_due}
use Rattle.record.specs.Record.{record_of}
use Rattle.record_due.proofs.duties.finishing_due.Goals as goal

pub returns : goal.returns
unfolding finishing_due record_of
returns c = cc
