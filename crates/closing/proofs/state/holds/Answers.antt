-- `closing::state::holds`: both tests.
use Rattle.closing.specs.State.{holds}
use Rattle.closing.proofs.state.holds.Goals as goal

pub returns : goal.returns
unfolding holds
returns c = rw (c.both.ensures, c.state.ensures, c.serial.ensures)
