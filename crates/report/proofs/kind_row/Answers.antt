-- `report::kind_row`: the entry of the table of kinds, by the kind and the word.
use Prim.Native.Nat.{◌+◌, ◌*◌}
use native.Mathlib.Omega.{arith}
use borrow.Author.Tests.{eq-eqb}
use Rattle.report.proofs.Rows.{kind_fits}
use Rattle.report.proofs.kind_row.Goals as goal

pub returns-then-word-eq1 : goal.returns-then-word-eq1
returns-then-word-eq1 c = (rw (← c.capped-k.ensures.0) (simp (eq-eqb _ _ c.if-word-eq1.true)), kind_fits (2 * c.capped-k.result + 1) (omega arith))
