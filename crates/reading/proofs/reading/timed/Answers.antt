-- `reading::reading::timed`: field by field.
use mathlib.Core.Path.{refl}
use Rattle.reading.specs.Reading.{timed}
use Rattle.reading.proofs.reading.timed.Goals as goal

pub returns : goal.returns
unfolding timed
returns c = refl
