-- `judge::judge::serials_of`: the serials of the owners passed.
use mathlib.Core.Path.{◌≡◌}
use lib.ListN.{length}
use Rattle.numbers.specs.Sizes.{nodes}
use Rattle.judge.specs.Judge.{named_below}
use Rattle.judge.proofs.judge.serials_of.Given as goal

abbrev pub invariant-loop-o : goal.invariant-loop-o
invariant-loop-o l = (length l.serials ≡ nodes) × (l.serials ≡ named_below l.image l.rivals l.o)
