-- `record::look::count`: the byte of the count.
use mathlib.Core.Path.{◌∙◌}
use Rattle.record.specs.Record.{record_of}
use Rattle.record.proofs.look.count.Goals as goal

pub returns : goal.returns
unfolding record_of
returns c = c.wide.ensures ∙ c.get_u8.ensures
