-- `record_arrive::arrive::is_answer`: the tests in the definition's order.
use Rattle.record.specs.Record.{record_of}
use Rattle.record_arrive.proofs.arrive.is_answer.Goals as goal

pub returns : goal.returns
unfolding record_of
returns c = cc
