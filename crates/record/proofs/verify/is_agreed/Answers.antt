-- `record::verify::is_agreed`: the tests in the definition's order.
use Rattle.record.specs.Record.{record_of}
use Rattle.record.proofs.verify.is_agreed.Goals as goal

pub returns : goal.returns
unfolding record_of
returns c = cc
