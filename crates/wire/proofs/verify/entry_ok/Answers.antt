-- `wire::verify::entry_ok`: the tests in the definition's order.
use Rattle.wire.specs.Formed.{entry_ok}
use Rattle.wire.proofs.verify.entry_ok.Goals as goal

pub returns : goal.returns
unfolding entry_ok
returns c = simp (c.both-2.ensures, c.both.ensures, c.content_ok.ensures)
