-- `buffers::when_off`: 4 and 10 stay.
use Rattle.buffers.proofs.when_off.Goals as goal

pub returns-then-either : goal.returns-then-either
returns-then-either c = rw (← c.either.ensures) (simp c.if-either.true)

pub returns-else-either : goal.returns-else-either
returns-else-either c = rw (← c.either.ensures) (simp c.if-either.false)
