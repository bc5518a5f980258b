-- `lists::limit`: each way through the tests computes the definition.
use native.Mathlib.Omega.{arith}
use mathlib.Core.Path.{refl}
use borrow.Author.Tests.{eq-eqb, ne_eqb}
use Rattle.lists.specs.Lists.{limit}
use Rattle.lists.proofs.limit.Goals as goal

pub returns-then-k-eq1 : goal.returns-then-k-eq1
unfolding limit
returns-then-k-eq1 c = simp (eq-eqb _ _ c.if-k-eq1.true) (refl, omega arith)

pub returns-then-k-eq2 : goal.returns-then-k-eq2
unfolding limit
returns-then-k-eq2 c = simp (eq-eqb _ _ c.if-k-eq2.true, ne_eqb _ _ c.if-k-eq1.false) (refl, omega arith)

pub returns : goal.returns
unfolding limit
returns c = simp (ne_eqb _ _ c.if-k-eq2.false, ne_eqb _ _ c.if-k-eq1.false) (refl, omega arith)
