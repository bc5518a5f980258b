-- `due::duties::open_due`: the tests in the definition's order.
use Rattle.due.specs.Kind.{open_due}
use Rattle.due.proofs.duties.open_due.Goals as goal

pub returns : goal.returns
unfolding open_due
returns c = cc
