-- `lists::lay`: the bytes so far, with those of the numbers that are left behind them, are all of them.
use Prim.Native.Nat.{◌+◌, ◌*◌, ◌≤◌}
use mathlib.Core.Path.{◌≡◌}
use mathlib.Core.List.{◌++◌}
use lib.ListN.{length, take, drop}
use Rattle.lists.specs.Lists.{first, fit_from, laid_from, laid}
use Rattle.lists.proofs.lay.Given as goal

abbrev pub invariant-loop-i : goal.invariant-loop-i
invariant-loop-i l = record {
  at : l.at ≤ 4 * l.i + 2;
  room : 4 * length l.numbers + 4 ≤ length l.out;
  fit : fit_from l.shape l.n l.i (drop l.i l.numbers) ≡ fit_from l.shape (first l.numbers) 0 l.numbers;
  laid : take l.at l.out ++ laid_from l.shape l.n l.i (drop l.i l.numbers) ≡ laid l.shape l.numbers;
}
