-- `record::verify::is_votable`: both tests.
use Rattle.record.specs.Valid.{votable}
use Rattle.record.proofs.verify.is_votable.Goals as goal

pub returns : goal.returns
unfolding votable
returns c = cc
