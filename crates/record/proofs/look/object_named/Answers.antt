-- `record::look::object_named`: the object at its place.
use Rattle.record.specs.Record.{record_of}
use Rattle.record.proofs.look.object_named.Goals as goal

pub returns : goal.returns
unfolding record_of
returns c = cc
