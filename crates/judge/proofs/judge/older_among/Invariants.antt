-- `judge::judge::older_among`: found so far is that of the owners passed.
use mathlib.Core.Path.{◌≡◌}
use Rattle.judge.specs.Judge.{some_below, older_in}
use Rattle.judge.proofs.judge.older_among.Given as goal

abbrev pub invariant-loop-r : goal.invariant-loop-r
invariant-loop-r l = l.found ≡ some_below l.r (older_in l.image l.rivals l.o)
