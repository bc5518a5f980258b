-- `reading::reading::noted`: each way through the test computes the definition.
use borrow.Author.Tests.{lt-ltb, le-ltb}
use Rattle.script.specs.Said.{in_part}
use Rattle.reading.specs.Reading.{noted}
use Rattle.reading.proofs.reading.noted.Goals as goal

pub returns-then-i-lt-LONGEST_LINE : goal.returns-then-i-lt-LONGEST_LINE
unfolding noted
returns-then-i-lt-LONGEST_LINE c = simp (lt-ltb _ _ c.if-i-lt-LONGEST_LINE.true, c.step-t.ensures)

pub returns : goal.returns
unfolding noted in_part
returns c = simp (le-ltb _ _ c.if-i-lt-LONGEST_LINE.false)
