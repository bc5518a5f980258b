-- `reading::notes::complaint`: each way through the tests computes the definition.
use borrow.Author.Tests.{eq-eqb, ne_eqb}
use Rattle.report.specs.Page.{inks, inks_append}
use Rattle.reading.specs.Notes.{complaint_texts}
use Rattle.reading.proofs.notes.complaint.Goals as goal

pub returns-then-what-eq-BAD : goal.returns-then-what-eq-BAD
unfolding complaint_texts inks
returns-then-what-eq-BAD c = simp (eq-eqb _ _ c.if-what-eq-BAD.true, inks_append, c.text.ensures, c.number-a.ensures)

pub returns : goal.returns
unfolding complaint_texts inks
returns c = simp (ne_eqb _ _ c.if-what-eq-BAD.false)
