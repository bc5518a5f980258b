-- `scenario::lines::started`: each way through the tests computes the definition.
use borrow.Author.Tests.{eq-eqb, ne_eqb}
use Rattle.report.specs.Page.{inks}
use Rattle.scenario.specs.Lines.{started_texts}
use Rattle.scenario.proofs.lines.started.Goals as goal

pub returns-then-number-ne0 : goal.returns-then-number-ne0
unfolding started_texts
returns-then-number-ne0 c = simp (ne_eqb _ _ c.if-number-ne0.true) c.refusal.ensures

pub returns : goal.returns
unfolding started_texts inks
returns c = simp (eq-eqb _ _ c.if-number-ne0.false)
