-- `wire::verify::rival_ok`: the tests in the definition's order.
use Rattle.wire.specs.Formed.{rival_ok}
use Rattle.wire.proofs.verify.rival_ok.Goals as goal

pub returns : goal.returns
unfolding rival_ok
returns c = simp (c.both-3.ensures, c.both-2.ensures, c.both.ensures, c.placed.ensures)
