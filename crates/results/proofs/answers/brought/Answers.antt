-- `results::answers::brought`: each way through the tests computes the definition.
use borrow.Author.Tests.{eq-eqb, ne_eqb}
use Rattle.report.specs.Page.{inks}
use Rattle.results.specs.Results.{brought_texts}
use Rattle.results.proofs.answers.brought.Goals as goal

pub returns-then-v-eq1 : goal.returns-then-v-eq1
unfolding brought_texts inks
returns-then-v-eq1 c = simp (eq-eqb _ _ c.if-v-eq1.true) c.text.ensures

pub returns-then-v-eq2 : goal.returns-then-v-eq2
unfolding brought_texts inks
returns-then-v-eq2 c = simp (eq-eqb _ _ c.if-v-eq2.true, ne_eqb _ _ c.if-v-eq1.false) c.text-then-v-eq2.ensures

pub returns-then-v-eq3 : goal.returns-then-v-eq3
unfolding brought_texts inks
returns-then-v-eq3 c = simp (eq-eqb _ _ c.if-v-eq3.true, ne_eqb _ _ c.if-v-eq2.false, ne_eqb _ _ c.if-v-eq1.false)
    c.text-then-v-eq3.ensures

pub returns-then-v-eq4 : goal.returns-then-v-eq4
unfolding brought_texts inks
returns-then-v-eq4 c = simp (
  eq-eqb _ _ c.if-v-eq4.true,
  ne_eqb _ _ c.if-v-eq3.false,
  ne_eqb _ _ c.if-v-eq2.false,
  ne_eqb _ _
      c.if-v-eq1.false,
) c.text-then-v-eq4.ensures

pub returns : goal.returns
unfolding brought_texts inks
returns c = simp (
  ne_eqb _ _ c.if-v-eq4.false,
  ne_eqb _ _ c.if-v-eq3.false,
  ne_eqb _ _ c.if-v-eq2.false,
  ne_eqb _ _
      c.if-v-eq1.false,
)
