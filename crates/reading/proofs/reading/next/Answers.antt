-- `reading::reading::next`: each way through the tests computes the definition.
use borrow.Author.Tests.{lt-ltb, le-ltb}
use Rattle.reading.specs.Reading.{next}
use Rattle.reading.proofs.reading.next.Goals as goal

pub returns-then-n-lt18446744073709551615 : goal.returns-then-n-lt18446744073709551615
unfolding next
returns-then-n-lt18446744073709551615 c = simp (lt-ltb _ _ c.if-n-lt18446744073709551615.true, c.fresh-t.ensures)

pub returns-else-n-lt18446744073709551615 : goal.returns-else-n-lt18446744073709551615
unfolding next
returns-else-n-lt18446744073709551615 c = simp (le-ltb _ _ c.if-n-lt18446744073709551615.false, c.fresh-t.ensures)
