-- `settings::are_tenths`: what was passed is below 10, and what is left is to be.
use mathlib.Core.Path.{◌≡◌}
use mathlib.Core.Bool.{◌&&◌}
use lib.ListN.{drop}
use Rattle.settings.specs.Settings.{below10}
use Rattle.settings.proofs.are_tenths.Given as goal

abbrev pub invariant-loop-x : goal.invariant-loop-x
invariant-loop-x l = (l.fine && below10 (drop l.x-index l.list)) ≡ below10 l.list
