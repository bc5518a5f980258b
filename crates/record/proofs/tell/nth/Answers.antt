-- `record::tell::nth`: what stands at the place.
use Rattle.record.proofs.tell.nth.Goals as goal

pub returns : goal.returns
returns c = rw (c.at_index.ensures, c.from.ensures, c.shown-c.ensures)
