-- `decimal::text_of` meets its contract. The loop's invariant: the text of what is left, in front of the bytes written, is the whole text.
use Prim.Native.Nat.{suc, ◌^◌, ◌≤◌, ◌<◌}
use mathlib.Core.Path.{◌≡◌}
use mathlib.Core.List.{◌++◌}
use lib.ListN.{length, drop}
use Rattle.decimal.specs.Decimal.{digits, decimal}
use Rattle.decimal.proofs.text_of.Given as goal

abbrev pub invariant-loop-rest : goal.invariant-loop-rest
invariant-loop-rest l = (l.from ≤ 19) × (length l.bytes ≡ 20) × (l.rest < 10 ^ suc l.from)
    × (digits (suc l.from) l.rest ++ drop (suc l.from) l.bytes ≡ decimal l.n)

abbrev pub decreases-loop-rest : goal.decreases-loop-rest
decreases-loop-rest l = l.rest
