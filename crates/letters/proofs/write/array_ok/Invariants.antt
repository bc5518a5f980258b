-- `letters::write::array_ok`: the pass over what is left from here on is the whole pass.
use mathlib.Core.Path.{◌≡◌}
use lib.ListN.{drop}
use Rattle.wire.specs.Formed.{entry_ok}
use Rattle.wire.specs.Run.{run, object_of}
use Rattle.letters.proofs.write.array_ok.Given as goal

abbrev pub invariant-loop-entry : goal.invariant-loop-entry
invariant-loop-entry l = run object_of (entry_ok 3) l.lo (drop l.entry-index l.entry-items) ≡ run object_of (entry_ok 3) 0 l.entry-items
