-- `increments::add_all`: after i turns the bytes are those of the record after the first i amounts.
use Rattle.std.proofs.Common.{◌≡◌, ℕ, [], length, get_or, w64, Fits}
use Rattle.numbers.specs.Sizes.{most_open}
use Rattle.coordinator.specs.System.{tree}
use Rattle.record.specs.Record.{record_of}
use Rattle.deeds.proofs.Held.{Holds}
use Rattle.increments.specs.Deeds.{ran, amounts_of, adding}
use Rattle.increments.proofs.add_all.Given as goal

abbrev pub invariant-loop-i : goal.invariant-loop-i
invariant-loop-i l = Holds l.bytes (ran tree (record_of l.initial.bytes) l.me (adding (amounts_of l.i l.objects l.grams) []))
    × (length l.objects ≡ most_open) × ((j : ℕ) → Fits w64 (get_or l.grams j 0))
