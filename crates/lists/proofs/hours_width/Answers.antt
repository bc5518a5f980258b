-- `lists::hours_width`: each way through the tests computes the definition.
use native.Mathlib.Omega.{arith}
use mathlib.Core.Path.{refl}
use borrow.Author.Tests.{eq-eqb, ne_eqb, le-leb, lt-leb}
use Rattle.lists.specs.Lists.{hours_width}
use Rattle.lists.proofs.hours_width.Goals as goal

pub returns-then-i-eq0 : goal.returns-then-i-eq0
unfolding hours_width
returns-then-i-eq0 c = simp (eq-eqb _ _ c.if-i-eq0.true) (refl, omega arith)

pub returns-then-i-n : goal.returns-then-i-n
unfolding hours_width
returns-then-i-n c = simp (le-leb _ _ c.if-i-n.true, ne_eqb _ _ c.if-i-eq0.false) (refl, omega arith)

pub returns-then-i-n-2 : goal.returns-then-i-n-2
unfolding hours_width
returns-then-i-n-2 c = simp (eq-eqb _ _ c.if-i-n-2.true, lt-leb _ _ c.if-i-n.false, ne_eqb _ _ c.if-i-eq0.false) (refl, omega arith)

pub returns : goal.returns
unfolding hours_width
returns c = simp (ne_eqb _ _ c.if-i-n-2.false, lt-leb _ _ c.if-i-n.false, ne_eqb _ _ c.if-i-eq0.false) (refl, omega arith)
