-- `record::look::phase`: its byte.
use Rattle.record.specs.Record.{record_of}
use Rattle.record.proofs.look.phase.Goals as goal

pub returns : goal.returns
unfolding record_of
returns c = c.get_u8.ensures
