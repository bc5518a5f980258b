-- `closing::state::decided`: both tests.
use Rattle.closing.specs.State.{decided}
use Rattle.closing.proofs.state.decided.Goals as goal

pub returns : goal.returns
unfolding decided
returns c = c.both.ensures
