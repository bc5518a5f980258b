-- `closing::copies::newest_copy`: the newest of the nodes passed.
use mathlib.Core.Path.{◌≡◌}
use Rattle.closing.specs.Copies.{newest_of}
use Rattle.closing.proofs.copies.newest_copy.Given as goal

abbrev pub invariant-loop-i : goal.invariant-loop-i
invariant-loop-i l = l.b ≡ newest_of l.images l.object l.i
