-- `record::load::read`: field by field.
use mathlib.Core.Path.{◌∙◌}
use Rattle.record.specs.Record.{record_of}
use Rattle.record.proofs.Made.{made_record}
use Rattle.record.proofs.load.read.Goals as goal

pub returns : goal.returns
unfolding record_of
returns c = made_record
    c.get_u32.ensures
    c.get_u32-2.ensures
    c.get_u8.ensures
    c.get_u8-2.ensures
    c.get_u16.ensures
    c.distances_of-distances.ensures
    c.get_u16-2.ensures
    c.get_u16-3.ensures
    (c.wide.ensures ∙ c.get_u8-3.ensures)
    c.objects_of-objects.ensures
    c.get_u16-4.ensures
    c.get_u16-5.ensures
    c.get_u16-6.ensures
    c.rivals_of-rivals.ensures
