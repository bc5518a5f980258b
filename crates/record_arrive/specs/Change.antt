-- Names for what the private functions on bytes leave of a record.
use Rattle.std.specs.Prelude.{List, ℕ}
use Rattle.mask.specs.Mask.{only, joined}
use Rattle.wire.specs.Decode.{from_of, rival_count}
use Rattle.coordinator.specs.declared.Coordinator.{Coordinator}
use Rattle.coordinator.specs.Step.{Step}
use Rattle.coordinator.specs.Calls.{with_phase}
use Rattle.arrivals.specs.Receive.{raise_from, with_yes}

-- the same transaction with other rivals' serials
abbrev pub with_rivals : Coordinator → List ℕ → Coordinator
with_rivals c rivals = with_phase c c.phase c.outcome c.participants c.yes c.done rivals

-- the serials with every rival that a message names
abbrev pub raised_by : Coordinator → List ℕ → List ℕ
raised_by c m = raise_from m (rival_count m) 0 c.rivals

-- a yes that fits
abbrev pub yes_taken : Coordinator → List ℕ → Step
yes_taken c m = with_yes c (joined c.yes (only (from_of m))) (raised_by c m)
