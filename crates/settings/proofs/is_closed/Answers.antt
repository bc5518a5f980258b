-- `settings::is_closed`: of the first 187 bytes.
use Rattle.parts.specs.Parts.{part}
use Rattle.settings.proofs.is_closed.Goals as goal

pub returns : goal.returns
unfolding part
returns c = c.is_closed.ensures
