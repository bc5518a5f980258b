-- `wire::verify::rival_fits`: the tests in the definition's order.
use Rattle.wire.proofs.verify.rival_fits.Goals as goal

pub returns : goal.returns
returns c = simp (c.both.ensures, c.rival_ok.ensures, c.from.ensures)
