-- `letters::write::write_ask`: the first of the entries.
use mathlib.Core.Path.{refl}
use native.Mathlib.Omega.{arith}
use Rattle.wire.specs.Formed.{entry_ok}
use Rattle.letters.proofs.write.write_ask.Goals as goal

pub send_entries-requires : goal.send_entries-requires
unfolding entry_ok
send_entries-requires c = (omega arith, refl, refl)
