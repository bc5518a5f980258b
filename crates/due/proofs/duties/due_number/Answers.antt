-- `due::duties::due_number`: the refusals in their order.
use Rattle.due.specs.Kind.{due_refusals}
use Rattle.due.proofs.duties.due_number.Goals as goal

pub returns : goal.returns
unfolding due_refusals
returns c = cc
