-- A request: a call of one of the functions for C that take a step at the station, with the arguments that are no buffer. What it tells and what it leaves
-- stand in the words of that function's contract, over the buffers that it is lent; the others stay as they were.
use Rattle.std.specs.Prelude.{refl, Bool, true, cond, List, [], ◌∷◌, ℕ, ◌^◌, ◌<◌, eqb, ℤ, length}
use Rattle.std.specs.Int.{w64}
use Rattle.std.proofs.Common.{SFits}
use Rattle.octets.specs.Signed.{bits_of}
use Rattle.octets.proofs.Laws.{Bytes}
use Rattle.steps.specs.Step.{found, reselect, abort, send, delivery, drop, switch}
use Rattle.buffers.specs.declared.Answer.{Answer}
use Rattle.buffers.specs.Buffers.{all, ends}
use Rattle.station_calls.specs.Calls.{host_told, host_records, switching, switch_told, switch_own}
use Rattle.station.specs.Messages.{sending, send_told, send_pool, delivery_told, delivery_images, delivery_records, delivery_pool, dropping, drop_told}
use Rattle.station.specs.Messages.{drop_pool}
use Rattle.increments.specs.Deeds.{reads, writes, values}
use Rattle.frontend.specs.Plan.{begin, batch, edit, request, load_classes}
use Rattle.frontend.specs.Plan.{Call as Front}
use Rattle.service.specs.Service.{Call, front, load_hours, plain}
use Rattle.service_calls.specs.Lent.{Lent, lent, front_told, front_records, front_settings, load_told, load_settings}
use Rattle.host.specs.Distances.{distances_of}
use Rattle.host.specs.Records.{begin_with}
use Rattle.host.specs.Stations.{told_with, records_with, begin_told_with, begin_records_with, begin_settings_with, yes}

-- what is asked of a node's front end, named by its function: station_begin is senna_station_begin
pub data Asked : Type 0 where
  -- live mask, distances as bytes, timestamp, day, minute; and the weights as they are lent
  station_begin : ℕ → List ℕ → ℕ → ℕ → ℕ → Asked
  station_batch : ℕ → List ℕ → ℕ → ℕ → ℕ → List ℕ → Asked
  -- object; and the signed value
  station_open_read : ℕ → Asked
  station_open_write : ℕ → Asked
  station_set_value : ℕ → ℤ → Asked
  station_request_commit : Asked
  -- table as it is lent
  station_load_classes : List ℕ → Asked

-- and every other function that takes a step
pub data Request : Type 0 where
  -- node, and what is asked of its front end
  station_front : ℕ → Asked → Request
  -- node, object
  station_found : ℕ → ℕ → Request
  -- node, live mask, distances as bytes
  station_reselect : ℕ → ℕ → List ℕ → Request
  -- node
  station_abort : ℕ → Request
  -- node, table as it is lent
  station_load_hours : ℕ → List ℕ → Request
  -- node, to, object
  station_send : ℕ → ℕ → ℕ → Request
  -- place, the byte `kept`; place
  station_deliver : ℕ → ℕ → Request
  station_drop : ℕ → Request
  -- node, the byte `up`
  station_switch : ℕ → ℕ → Request

-- ---- its arguments are of their C types: bytes, a timestamp of 32 bits, a signed value of 64 bits. All others may be any number.
abbrev pub AskedOfTypes : Asked → Type 0
AskedOfTypes (station_begin live d timestamp day minute) = (timestamp < 2 ^ 32) × Bytes d
AskedOfTypes (station_batch live d timestamp day minute list) = (timestamp < 2 ^ 32) × Bytes d
AskedOfTypes (station_open_read t) = Unit {0}
AskedOfTypes (station_open_write t) = Unit {0}
AskedOfTypes (station_set_value t v) = SFits w64 v
AskedOfTypes station_request_commit = Unit {0}
AskedOfTypes (station_load_classes list) = Unit {0}

abbrev pub OfTypes : Request → Type 0
OfTypes (station_front n a) = AskedOfTypes a
OfTypes (station_found n t) = Unit {0}
OfTypes (station_reselect n live d) = Bytes d
OfTypes (station_abort n) = Unit {0}
OfTypes (station_load_hours n list) = Unit {0}
OfTypes (station_send n to t) = Unit {0}
OfTypes (station_deliver k kept) = Unit {0}
OfTypes (station_drop k) = Unit {0}
OfTypes (station_switch n up) = Unit {0}

-- ---- the step of the service that it is; it is one where its distances, if it takes any, are 26 bytes
unfoldable pub front_of : Asked → Front
front_of (station_begin live d timestamp day minute) = begin (begin_with live d timestamp) day minute
front_of (station_batch live d timestamp day minute list) = batch (begin_with live d timestamp) day minute list
front_of (station_open_read t) = edit (reads t)
front_of (station_open_write t) = edit (writes t)
front_of (station_set_value t v) = edit (values t (bits_of v))
front_of station_request_commit = request
front_of (station_load_classes list) = load_classes list

unfoldable pub call_of : Request → Call
call_of (station_front n a) = front n (front_of a)
call_of (station_found n t) = plain (found n t) refl
call_of (station_reselect n live d) = plain (reselect n live (distances_of d)) refl
call_of (station_abort n) = plain (abort n) refl
call_of (station_load_hours n list) = load_hours n list
call_of (station_send n to t) = plain (send n to t) refl
call_of (station_deliver k kept) = plain (delivery k (yes kept)) refl
call_of (station_drop k) = plain (drop k) refl
call_of (station_switch n up) = plain (switch n (yes up)) refl

unfoldable pub asked_well : Asked → Bool
asked_well (station_begin live d timestamp day minute) = eqb (length d) 26
asked_well (station_batch live d timestamp day minute list) = eqb (length d) 26
asked_well (station_open_read t) = true
asked_well (station_open_write t) = true
asked_well (station_set_value t v) = true
asked_well station_request_commit = true
asked_well (station_load_classes list) = true

unfoldable pub lent_well : Request → Bool
lent_well (station_front n a) = asked_well a
lent_well (station_found n t) = true
lent_well (station_reselect n live d) = eqb (length d) 26
lent_well (station_abort n) = true
lent_well (station_load_hours n list) = true
lent_well (station_send n to t) = true
lent_well (station_deliver k kept) = true
lent_well (station_drop k) = true
lent_well (station_switch n up) = true

-- ---- what a front end's function tells, and leaves of the records and the settings, over these two and who is on
pub record Words : Type 0 where
  pub told : Answer
  pub records : List ℕ
  pub settings : List ℕ

abbrev pub front_lent : Lent → Lent
front_lent b = lent [] b.station.records [] b.station.own b.settings

-- with distances as bytes, and without
abbrev pub words_with : List ℕ → Lent → ℕ → Front → Words
words_with d b n f = record { told = begin_told_with d b n f; records = begin_records_with d b n f; settings = begin_settings_with d b n f }

abbrev pub words : Lent → ℕ → Front → Words
words b n f = record { told = front_told b n f; records = front_records b n f; settings = front_settings b n f }

unfoldable pub words_of : Asked → Lent → ℕ → Words
words_of (station_begin live d timestamp day minute) b n = words_with d b n (begin (begin_with live d timestamp) day minute)
words_of (station_batch live d timestamp day minute list) b n = words_with d b n (batch (begin_with live d timestamp) day minute list)
words_of (station_open_read t) b n = words b n (edit (reads t))
words_of (station_open_write t) b n = words b n (edit (writes t))
words_of (station_set_value t v) b n = words b n (edit (values t (bits_of v)))
words_of station_request_commit b n = words b n request
words_of (station_load_classes list) b n = words b n (load_classes list)

-- ---- what the caller is told; of `found` with the value's 64 bits, which its function turns into a signed number (host's value_of)
unfoldable pub request_told : Request → Lent → Answer
request_told (station_front n a) b = (words_of a (front_lent b) n).told
request_told (station_found n t) b = host_told (ends b.station.records b.station.own) n (found n t)
request_told (station_reselect n live d) b = told_with d (ends b.station.records b.station.own) n (reselect n live)
request_told (station_abort n) b = host_told (ends b.station.records b.station.own) n (abort n)
request_told (station_load_hours n list) b = load_told (lent [] [] [] b.station.own b.settings) n list
request_told (station_send n to t) b = send_told (sending b.station.records b.station.pool b.station.own) n to t
request_told (station_deliver k kept) b =
    delivery_told (all b.station.images b.station.records b.station.pool b.station.own) k (yes kept)
request_told (station_drop k) b = drop_told (dropping b.station.pool) k
request_told (station_switch n up) b = switch_told (switching b.station.own) n (yes up)

-- ---- what is left of the buffers: those that the function writes as its contract says, the others as they were
abbrev pub with_ends : Lent → List ℕ → List ℕ → Lent
with_ends b records settings = lent b.station.images records b.station.pool b.station.own settings

abbrev pub with_pool : Lent → List ℕ → Lent
with_pool b pool = lent b.station.images b.station.records pool b.station.own b.settings

unfoldable pub request_left : Request → Lent → Lent
request_left (station_front n a) b = with_ends b (words_of a (front_lent b) n).records (words_of a (front_lent b) n).settings
request_left (station_found n t) b = with_ends b (host_records (ends b.station.records b.station.own) n (found n t)) b.settings
request_left (station_reselect n live d) b = with_ends b (records_with d (ends b.station.records b.station.own) n (reselect n live)) b.settings
request_left (station_abort n) b = with_ends b (host_records (ends b.station.records b.station.own) n (abort n)) b.settings
request_left (station_load_hours n list) b = with_ends b b.station.records (load_settings (lent [] [] [] b.station.own b.settings) n list)
request_left (station_send n to t) b = with_pool b (send_pool (sending b.station.records b.station.pool b.station.own) n to t)
request_left (station_deliver k kept) b =
    let a = all b.station.images b.station.records b.station.pool b.station.own in
    lent (delivery_images a k (yes kept)) (delivery_records a k (yes kept)) (delivery_pool a k (yes kept)) b.station.own b.settings
request_left (station_drop k) b = with_pool b (drop_pool (dropping b.station.pool) k)
request_left (station_switch n up) b =
    lent b.station.images b.station.records b.station.pool (switch_own (switching b.station.own) n (yes up)) b.settings

-- ---- a host that calls nothing but these functions: the steps of its requests, newest first, after those of a list; and what they leave of the buffers
abbrev pub calls_after : List Request → List Call → List Call
calls_after [] cs = cs
calls_after (q ∷ qs) cs = cond (lent_well q) (call_of q ∷ calls_after qs cs) (calls_after qs cs)

abbrev pub left_by : List Request → Lent → Lent
left_by [] b = b
left_by (q ∷ qs) b = request_left q (left_by qs b)

abbrev pub AllOfTypes : List Request → Type 0
AllOfTypes [] = Unit {0}
AllOfTypes (q ∷ qs) = OfTypes q × AllOfTypes qs
