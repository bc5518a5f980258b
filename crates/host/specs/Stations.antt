-- A station's steps for C: distances as bytes, 1 for another length than 26; values as signed numbers; yes and no as bytes, 0 for no
-- and any other for yes. And what waits.
use Rattle.std.specs.Prelude.{Bool, cond, not, List, ℕ, eqb, length, replicate}
use Rattle.numbers.specs.Sizes.{nodes}
use Rattle.numbers.specs.Numbers.{wrong_length}
use Rattle.octets.specs.Signed.{signed_of}
use Rattle.pool.specs.Pool.{message_place, count, length_at, check}
use Rattle.pool.specs.Change.{remove_number}
use Rattle.coordinator.specs.declared.BeginWith.{BeginWith}
use Rattle.buffers.specs.declared.Answer.{Answer}
use Rattle.steps.specs.Step.{Call}
use Rattle.buffers.specs.Buffers.{Buffers, answer_with}
use Rattle.station_calls.specs.Calls.{host_told, host_records}
use Rattle.frontend.specs.declared.Act.{Act}
use Rattle.frontend.specs.declared.Ask.{Ask}
use Rattle.frontend.specs.Plan.{Call as Front}
use Rattle.service_calls.specs.Lent.{Lent, front_told, front_records, front_settings}
use Rattle.host.specs.declared.records.Value.{Value}
use Rattle.host.specs.declared.stations.Waiting.{Waiting}
use Rattle.host.specs.Distances.{distances_of}

-- a step at node n that takes distances: what it answers, and the records after it, which are left as they were where the distances have
-- another length
unfoldable pub told_with : List ℕ → Buffers → ℕ → (List ℕ → Call) → Answer
told_with distances b n f = cond (eqb (length distances) 26) (host_told b n (f (distances_of distances))) (answer_with wrong_length 0)

unfoldable pub records_with : List ℕ → Buffers → ℕ → (List ℕ → Call) → List ℕ
records_with distances b n f = cond (eqb (length distances) 26) (host_records b n (f (distances_of distances))) b.records

-- a begin or a batch at node n, which takes distances too; and the settings after it
unfoldable pub begin_told_with : List ℕ → Lent → ℕ → Front → Answer
begin_told_with distances b n a = cond (eqb (length distances) 26) (front_told b n a) (answer_with wrong_length 0)

unfoldable pub begin_records_with : List ℕ → Lent → ℕ → Front → List ℕ
begin_records_with distances b n a = cond (eqb (length distances) 26) (front_records b n a) b.station.records

unfoldable pub begin_settings_with : List ℕ → Lent → ℕ → Front → List ℕ
begin_settings_with distances b n a = cond (eqb (length distances) 26) (front_settings b n a) b.settings

-- what a front end is asked: to begin with distances as bytes, or something of an object; what the call does not have is 0
abbrev pub ask_begin : Act → BeginWith → ℕ → ℕ → Ask
ask_begin act w day minute = record { act = act; with = w; object = 0; value = 0; day = day; minute = minute }

abbrev pub no_begin : BeginWith
no_begin = record { live = 0; distances = replicate nodes 0; timestamp = 0 }

abbrev pub ask_object : Act → ℕ → ℕ → Ask
ask_object act object value = record { act = act; with = no_begin; object = object; value = value; day = 0; minute = 0 }

-- an answer that is a value
abbrev pub value_of : Answer → Value
value_of a = record { number = a.number; value = signed_of a.answer }

-- a byte that says yes or no: 0 is no
abbrev pub yes : ℕ → Bool
yes x = not (eqb x 0)

-- how many messages wait; none in bytes that are no pool
unfoldable pub waiting_in : List ℕ → ℕ
waiting_in pool = cond (eqb (check pool) 0) (count pool) 0

-- where the k-th of them stands and how long it is, or the number for which it could not be removed: 1, 2, and 5 where no such message waits
unfoldable pub waiting_at : List ℕ → ℕ → Waiting
waiting_at pool k =
    cond (eqb (remove_number pool k) 0) (record { number = 0; place = message_place k; length = length_at pool k })
    (record { number = remove_number pool k; place = 0; length = 0 })
