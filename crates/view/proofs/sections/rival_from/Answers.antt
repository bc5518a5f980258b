-- `view::sections::rival_from`: field by field.
use Rattle.wire.proofs.Made.{made_rival}
use Rattle.wire.specs.Decode.{rival_at}
use Rattle.view.proofs.sections.rival_from.Goals as goal

pub returns : goal.returns
unfolding rival_at
returns c = made_rival c.get_u8.ensures c.get_u32.ensures
