-- `due::duties::due`: the number, and where that is 0 the kind.
use Rattle.due.specs.Kind.{due_of}
use Rattle.due.proofs.duties.due.Goals as goal

pub returns : goal.returns
unfolding due_of
returns c = cc
