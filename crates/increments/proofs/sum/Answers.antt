-- `increments::sum`: the 64 bits of the sum.
use mathlib.Core.Path.{refl}
use Rattle.increments.specs.Sums.{sum64}
use Rattle.increments.proofs.sum.Goals as goal

pub returns : goal.returns
unfolding sum64
returns c = refl
