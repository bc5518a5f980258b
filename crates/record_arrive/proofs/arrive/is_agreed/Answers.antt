-- `record_arrive::arrive::is_agreed`: the participants that voted yes are all of them.
use mathlib.Core.Path.{refl}
use Rattle.record_arrive.proofs.arrive.is_agreed.Goals as goal

pub returns : goal.returns
returns c = refl
