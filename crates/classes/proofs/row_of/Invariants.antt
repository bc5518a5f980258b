-- `classes::row_of`: the bounds copied over the first places of the row.
use mathlib.Core.Path.{◌≡◌}
use lib.ListN.{length, replicate}
use lib.Seq.{paste}
use Rattle.classes.specs.Classes.{most_bounds, bounds}
use Rattle.classes.proofs.row_of.Given as goal

abbrev pub invariant-loop-i : goal.invariant-loop-i
invariant-loop-i l = (l.row ≡ paste (replicate 7 65536) 0 (bounds l.kept) l.i) × (length l.row ≡ most_bounds)
