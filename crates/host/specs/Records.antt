-- The coordinator's calls for C: distances as bytes, 1 for another length than 26, and values as signed numbers. A begin and a batch go by the settings
-- that are lent beside the record, and change them.
use Rattle.std.specs.Prelude.{cond, List, ℕ, eqb, length}
use Rattle.numbers.specs.Numbers.{wrong_length}
use Rattle.octets.specs.Signed.{signed_of}
use Rattle.coordinator.specs.declared.BeginWith.{BeginWith}
use Rattle.coordinator.specs.declared.Coordinator.{Coordinator}
use Rattle.coordinator.specs.Step.{Step}
use Rattle.coordinator.specs.System.{tree}
use Rattle.coordinator.specs.Calls.{reselect_of}
use Rattle.record.specs.declared.Called.{Called}
use Rattle.record.specs.Call.{called, called_of, record_after}
use Rattle.frontend.specs.Plan.{Call, front_told, front_record, front_settings}
use Rattle.host.specs.declared.records.Value.{Value}
use Rattle.host.specs.Distances.{distances_of}

-- a call that takes distances: what it answers, and the bytes after it, which are left as they were where the distances have another length
unfoldable pub answer_with : List ℕ → (Coordinator → Step) → List ℕ → Called
answer_with distances f l = cond (eqb (length distances) 26) (called_of f l) (called wrong_length 0)

unfoldable pub bytes_with : List ℕ → (Coordinator → Step) → List ℕ → List ℕ
bytes_with distances f l = cond (eqb (length distances) 26) (record_after f l) l

-- a begin or a batch, which takes distances too: the same over a record and settings, and the settings after it
unfoldable pub begun_with : List ℕ → List ℕ → List ℕ → ℕ → Call → Called
begun_with distances l settings me a = cond (eqb (length distances) 26) (front_told l settings me a) (called wrong_length 0)

unfoldable pub bytes_begun : List ℕ → List ℕ → List ℕ → ℕ → Call → List ℕ
bytes_begun distances l settings me a = cond (eqb (length distances) 26) (front_record l settings me a) l

unfoldable pub settings_begun : List ℕ → List ℕ → List ℕ → ℕ → Call → List ℕ
settings_begun distances l settings me a = cond (eqb (length distances) 26) (front_settings l settings me a) settings

-- begin and reselect with distances as bytes
abbrev pub begin_with : ℕ → List ℕ → ℕ → BeginWith
begin_with live distances timestamp = record { live = live; distances = distances_of distances; timestamp = timestamp }

abbrev pub reselect_step : ℕ → ℕ → List ℕ → Coordinator → Step
reselect_step me live distances c = reselect_of tree c me live (distances_of distances)

-- an answer that is a value
abbrev pub value_of : Called → Value
value_of x = record { number = x.number; value = signed_of x.answer }
