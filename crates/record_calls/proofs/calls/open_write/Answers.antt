-- `record_calls::calls::open_write`: a record's bytes are all handed on, so what is left of them is all.
use mathlib.Core.Path.{sym}
use Rattle.coordinator.specs.declared.Coordinator.{Coordinator}
use Rattle.coordinator.specs.Calls.{open_of}
use Rattle.record.proofs.OnBytes.{part_record}
use Rattle.record_calls.proofs.calls.open_write.Goals as goal

pub returns-clause-bytes_after : goal.returns-clause-bytes_after
returns-clause-bytes_after c = let x = c.args in
    part_record x.bytes.now (sym c.in_ok-check.ensures) (λ (c : Coordinator). open_of c x.me x.object 1) _ c.open.ensures.bytes_after
