-- `lists::width`: by the shape.
use native.Mathlib.Omega.{arith}
use mathlib.Core.Path.{refl}
use Rattle.lists.specs.Lists.{width}
use Rattle.lists.proofs.width.Goals as goal

pub returns-in-Hours : goal.returns-in-Hours
unfolding width
returns-in-Hours c = simp c.in-Hours.is c.hours_width.ensures

pub returns-in-Classes : goal.returns-in-Classes
unfolding width
returns-in-Classes c = simp c.in-Classes.is c.classes_width.ensures

pub returns-in-Weights : goal.returns-in-Weights
unfolding width
returns-in-Weights c = simp c.in-Weights.is (refl, omega arith)
