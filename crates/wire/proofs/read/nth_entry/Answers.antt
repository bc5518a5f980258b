-- `wire::read::nth_entry`: the test against the count decides.
use borrow.Author.Tests.{lt-ltb, le-ltb}
use Rattle.wire.proofs.read.nth_entry.Goals as goal

pub returns-then-i-entries : goal.returns-then-i-entries
returns-then-i-entries c = simp (lt-ltb _ _ (rw c.entries.ensures.0 at c.if-i-entries.true)) c.entry_at.ensures

pub returns-else-i-entries : goal.returns-else-i-entries
returns-else-i-entries c = simp (le-ltb _ _ (rw c.entries.ensures.0 at c.if-i-entries.false))
