-- `view::sections::entry_from`: field by field.
use Rattle.wire.proofs.Made.{made_entry}
use Rattle.wire.specs.Decode.{entry_at}
use Rattle.view.proofs.sections.entry_from.Goals as goal

pub returns : goal.returns
unfolding entry_at
returns c = made_entry c.get_u8.ensures c.get_u8-2.ensures c.get_u32.ensures c.get_u64.ensures
