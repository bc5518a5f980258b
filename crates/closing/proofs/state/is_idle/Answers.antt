-- `closing::state::is_idle`: the test of the record's phase.
use mathlib.Core.Path.{ap}
use lib.Dec.{eqb}
use Rattle.coordinator.specs.declared.Coordinator.{Coordinator}
use Rattle.closing.specs.State.{idle_at}
use Rattle.closing.proofs.state.is_idle.Goals as goal

pub returns : goal.returns
unfolding idle_at
returns c = ap (λ (r : Coordinator). eqb r.phase 0) c.record_at.ensures
