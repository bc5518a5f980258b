-- `record_calls::calls::reselect`: a record's bytes are all handed on, so what is left of them is all.
use mathlib.Core.Path.{sym}
use Rattle.coordinator.specs.declared.Coordinator.{Coordinator}
use Rattle.coordinator.specs.System.{tree}
use Rattle.coordinator.specs.Calls.{reselect_of}
use Rattle.record.proofs.OnBytes.{part_record}
use Rattle.record_calls.proofs.calls.reselect.Goals as goal

pub returns-clause-bytes_after : goal.returns-clause-bytes_after
returns-clause-bytes_after c = let x = c.args in
    part_record x.bytes.now (sym c.in_ok-check.ensures) (λ (c : Coordinator). reselect_of tree c x.me x.live x.distances) _ c.reselect.ensures.bytes_after
