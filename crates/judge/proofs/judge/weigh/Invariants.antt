-- `judge::judge::weigh`: found so far, and at the entries from here on.
use mathlib.Core.Path.{◌≡◌}
use mathlib.Core.Bool.{◌||◌}
use Rattle.wire.specs.Decode.{owner_of, decode}
use Rattle.judge.specs.Judge.{some, gathered}
use Rattle.judge.specs.Weighing.{barred as bar}
use Rattle.judge.proofs.Passes.{rest}
use Rattle.judge.proofs.judge.weigh.Given as goal

abbrev pub invariant-loop-i : goal.invariant-loop-i
invariant-loop-i l = ((l.barred || some (bar l.image (owner_of l.message)) (rest l.message l.i))
    ≡ some (bar l.image (owner_of l.message)) (decode l.message).entries)
    × (gathered l.image l.found (rest l.message l.i) ≡ gathered l.image 0 (decode l.message).entries)
