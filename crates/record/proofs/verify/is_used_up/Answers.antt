-- `record::verify::is_used_up`: the tests in the definition's order.
use Rattle.record.specs.Record.{object_of}
use Rattle.record.proofs.verify.is_used_up.Goals as goal

pub returns : goal.returns
unfolding object_of
returns c = cc
