-- `reading::reading::kept`: field by field.
use mathlib.Core.Path.{refl}
use Rattle.reading.specs.Reading.{kept}
use Rattle.reading.proofs.reading.kept.Goals as goal

pub returns : goal.returns
unfolding kept
returns c = refl
