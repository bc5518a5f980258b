-- `closing::tenths::class`: nothing, or a number.
use borrow.Author.Tests.{eq-eqb, ne_eqb}
use Rattle.report.specs.Page.{inks}
use Rattle.closing.specs.Texts.{class_texts}
use Rattle.closing.proofs.tenths.class.Goals as goal

pub returns-then-w-ne0 : goal.returns-then-w-ne0
unfolding class_texts inks
returns-then-w-ne0 c = simp (ne_eqb _ _ c.if-w-ne0.true)

pub returns : goal.returns
unfolding class_texts
returns c = simp (eq-eqb _ _ c.if-w-ne0.false) c.number.ensures
