-- `record_due::may_write`: in a buffer that is long enough the number of the bytes is the call's.
use mathlib.Core.Path.{◌∙◌}
use borrow.Author.Tests.{le-ltb}
use Rattle.numbers.specs.Sizes.{longest_message}
use Rattle.record_due.proofs.OnBytes.{due_check}
use Rattle.record_due.proofs.may_write.Goals as goal

pub returns : goal.returns
returns c = let x = c.args in
    c.check.ensures ∙ due_check x.bytes.now x.size (le-ltb x.size longest_message c.if-size-lt-LONGEST_MESSAGE.false)
