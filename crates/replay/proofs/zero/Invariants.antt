-- `replay::zero`: what is left to be zeroed of the sheet as it is now is what was to be zeroed at first.
use mathlib.Core.Path.{◌≡◌}
use Prim.Native.Nat.{◌+◌, ◌-◌}
use lib.ListN.{length}
use Rattle.replay.specs.Sheet.{zeroed}
use Rattle.replay.proofs.zero.Given as goal

abbrev pub invariant-loop-i : goal.invariant-loop-i
invariant-loop-i l = (length l.sheet ≡ length l.initial.sheet) × (zeroed (l.at + l.n - l.i) l.sheet l.i ≡ zeroed l.n l.initial.sheet l.at)
