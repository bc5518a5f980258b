-- `record_due::duties::voting_due`: the tests in the definition's order.
use Rattle.due.specs.Kind.{voting_due}
use Rattle.record.specs.Record.{record_of}
use Rattle.record_due.proofs.duties.voting_due.Goals as goal

pub returns : goal.returns
unfolding voting_due record_of
returns c = cc
