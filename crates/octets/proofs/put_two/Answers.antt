-- `octets::put_two`: two bytes, one by one.
use mathlib.Core.Path.{refl}
use Rattle.octets.specs.Octets.{put}
use Rattle.octets.proofs.put_two.Goals as goal

pub returns : goal.returns
unfolding put
returns c = refl
