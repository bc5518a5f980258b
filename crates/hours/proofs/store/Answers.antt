-- `hours::store`: the mark, and the table laid behind it.
use mathlib.Core.Path.{refl}
use Rattle.hours.proofs.Theorems.{laid_behind}
use Rattle.hours.proofs.store.Goals as goal

pub returns : goal.returns
returns c = laid_behind c.args.kept.now c.args.list.now _ _ c.requires refl c.lay.ensures
