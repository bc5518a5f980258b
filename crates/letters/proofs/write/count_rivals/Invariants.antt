-- `letters::write::count_rivals`: what was counted, and what is left, is all of them.
use mathlib.Core.Path.{◌≡◌}
use mathlib.Core.Bool.{not}
use Prim.Native.Nat.{◌+◌, ◌≤◌}
use lib.Dec.{eqb}
use lib.ListN.{drop}
use Rattle.std.specs.List.{count_by}
use Rattle.letters.proofs.write.count_rivals.Given as goal

abbrev pub invariant-loop-serial : goal.invariant-loop-serial
invariant-loop-serial l = (l.n ≤ l.serial-index)
    × (l.n + count_by (λ s. not (eqb s 0)) (drop l.serial-index l.serial-items) ≡ count_by (λ s. not (eqb s 0)) l.serial-items)
