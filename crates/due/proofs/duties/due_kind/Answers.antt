-- `due::duties::due_kind`: by the phase.
use Rattle.due.specs.Kind.{due_kind}
use Rattle.due.proofs.duties.due_kind.Goals as goal

pub returns : goal.returns
unfolding due_kind
returns c = cc
