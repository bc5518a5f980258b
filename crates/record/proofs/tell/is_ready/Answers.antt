-- `record::tell::is_ready`: of the object.
use Rattle.record.proofs.tell.is_ready.Goals as goal

pub returns : goal.returns
returns c = rw (c.is_ready.ensures, c.nth.ensures)
