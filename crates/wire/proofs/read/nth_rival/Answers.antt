-- `wire::read::nth_rival`: the test against the count decides.
use borrow.Author.Tests.{lt-ltb, le-ltb}
use Rattle.wire.proofs.read.nth_rival.Goals as goal

pub returns-then-i-rivals : goal.returns-then-i-rivals
returns-then-i-rivals c = simp (lt-ltb _ _ (rw c.rivals.ensures.0 at c.if-i-rivals.true))
    (rw c.rivals_place.ensures.0 at c.rival_at.ensures)

pub returns-else-i-rivals : goal.returns-else-i-rivals
returns-else-i-rivals c = simp (le-ltb _ _ (rw c.rivals.ensures.0 at c.if-i-rivals.false))
