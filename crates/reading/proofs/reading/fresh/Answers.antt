-- `reading::reading::fresh`: each way through the tests computes the definition.
use Rattle.reading.specs.Reading.{fresh}
use Rattle.reading.proofs.reading.fresh.Goals as goal

pub returns : goal.returns
unfolding fresh
returns c = simp c.fresh-said.ensures
