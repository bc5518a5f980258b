-- A delivery to a record as bytes: 1 for either length, then as any call.
use Rattle.std.specs.Prelude.{cond, List, ℕ, eqb}
use Rattle.numbers.specs.Numbers.{wrong_length}
use Rattle.wire.specs.Decode.{check_of}
use Rattle.coordinator.specs.declared.Coordinator.{Coordinator}
use Rattle.coordinator.specs.System.{tree}
use Rattle.arrivals.specs.Receive.{receive_of}
use Rattle.record.specs.declared.Called.{Called}
use Rattle.record.specs.Call.{called, called_of}

unfoldable pub received_of : ℕ → List ℕ → List ℕ → Called
received_of me message l =
    cond (eqb (check_of message) wrong_length) (called wrong_length 0) (called_of (λ (c : Coordinator). receive_of tree c me message) l)
