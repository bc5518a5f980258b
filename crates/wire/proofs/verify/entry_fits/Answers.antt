-- `wire::verify::entry_fits`: the tests in the definition's order.
use Rattle.wire.proofs.verify.entry_fits.Goals as goal

pub returns : goal.returns
returns c = simp (c.both.ensures, c.entry_ok.ensures, c.from.ensures)
