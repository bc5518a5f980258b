-- `replay::take_all`: what is left to be taken from the sheet as it is now is what was to be taken at first.
use mathlib.Core.Path.{◌≡◌}
use Prim.Native.Nat.{◌-◌}
use lib.ListN.{length}
use Rattle.numbers.specs.Sizes.{objects}
use Rattle.replay.specs.Sheet.{all_taken}
use Rattle.replay.proofs.take_all.Given as goal

abbrev pub invariant-loop-t : goal.invariant-loop-t
invariant-loop-t l = (length l.sheet ≡ length l.initial.sheet)
    × (all_taken (objects - l.t) l.sheet l.o l.t ≡ all_taken objects l.initial.sheet l.o 0)
