-- `results::answers::result`: each way through the tests computes the definition.
use borrow.Author.Tests.{eq-eqb, ne_eqb}
use Rattle.report.specs.Page.{inks, inks_append}
use Rattle.results.specs.Results.{result_texts}
use Rattle.results.proofs.answers.result.Goals as goal

pub returns-then-a-eq0 : goal.returns-then-a-eq0
unfolding result_texts inks
returns-then-a-eq0 c = simp (
  eq-eqb _ _
      c.if-a-eq0.true,
  inks_append,
  c.text.ensures,
  c.answer-y.ensures,
  c.text-x.ensures,
)

pub returns : goal.returns
unfolding result_texts
returns c = simp (ne_eqb _ _ c.if-a-eq0.false) c.refusal.ensures
