-- `classes::split`: each place filled so far is the grams, and the tenths left over, of its sum.
use mathlib.Core.Path.{◌≡◌}
use Prim.Native.Nat.{ℕ, ◌+◌, ◌/◌, ◌%◌, ◌<◌}
use lib.ListN.{length, get_or}
use Rattle.classes.specs.Classes.{most_classes}
use Rattle.classes.proofs.split.Given as goal

abbrev pub invariant-loop-i : goal.invariant-loop-i
invariant-loop-i l = (length l.grams ≡ most_classes) × (length l.left ≡ most_classes)
    × ((j : ℕ) → j < l.i → get_or l.grams j 0 ≡ (get_or l.waiting j 0 + get_or l.sums j 0) / 10)
    × ((j : ℕ) → j < l.i → get_or l.left j 0 ≡ (get_or l.waiting j 0 + get_or l.sums j 0) % 10)
