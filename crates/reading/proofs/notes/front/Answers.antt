-- `reading::notes::front`: a front that is there, or none.
use mathlib.Core.Path.{sym}
use lib.Seq.{length-take-le}
use native.Mathlib.Omega.{arith}
use borrow.Author.Tests.{lt-ltb, le-ltb}
use Rattle.report.specs.Page.{inks}
use Rattle.reading.specs.Notes.{front_texts}
use Rattle.reading.proofs.notes.front.Goals as goal

pub returns-then-text-long : goal.returns-then-text-long
unfolding front_texts inks
returns-then-text-long c = simp (lt-ltb _ _ c.if-text-long.true)

pub slice_bounds-text-end : goal.slice_bounds-text-end
slice_bounds-text-end c = sym (length-take-le _ _ (omega arith))

pub returns : goal.returns
unfolding front_texts inks
returns c = simp (le-ltb _ _ c.if-text-long.false) c.text.ensures
