-- `due::duties::finishing_due`: an outcome, else a yield.
use Rattle.due.specs.Kind.{finishing_due}
use Rattle.due.proofs.duties.finishing_due.Goals as goal

pub returns : goal.returns
unfolding finishing_due
returns c = cc
