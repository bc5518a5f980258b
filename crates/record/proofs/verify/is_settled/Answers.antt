-- `record::verify::is_settled`: the tests in the definition's order.
use Rattle.record.specs.Record.{object_of}
use Rattle.record.proofs.verify.is_settled.Goals as goal

pub returns : goal.returns
unfolding object_of
returns c = cc
