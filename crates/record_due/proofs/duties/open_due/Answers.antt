-- `record_due::duties::open_due`: the tests in the definition's order.
use Rattle.due.specs.Kind.{open_due}
use Rattle.record.specs.Record.{record_of}
use Rattle.record_due.proofs.duties.open_due.Goals as goal

pub returns : goal.returns
unfolding open_due record_of
returns c = cc
