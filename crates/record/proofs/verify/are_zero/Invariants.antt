-- `record::verify::are_zero`: what was passed is 0, and what is left is to be.
use mathlib.Core.Path.{◌≡◌}
use mathlib.Core.Bool.{◌&&◌}
use lib.ListN.{drop}
use Rattle.clauses.specs.Clauses.{zeros}
use Rattle.record.proofs.verify.are_zero.Given as goal

abbrev pub invariant-loop-x : goal.invariant-loop-x
invariant-loop-x l = (l.ok && zeros (drop l.x-index l.bytes)) ≡ zeros l.bytes
