-- `letters::write::write_outcome`: the first of the entries, and the word.
use mathlib.Core.Path.{refl}
use native.Mathlib.Omega.{arith}
use Rattle.wire.specs.Formed.{entry_ok}
use Rattle.letters.proofs.write.write_outcome.Goals as goal

pub send_entries-requires : goal.send_entries-requires
unfolding entry_ok
send_entries-requires c = (omega arith, refl, refl)
