-- The service over five lent buffers: the station's four and the settings. What service they are, their own numbers, and what a call of a front end, a load
-- of hours and the maker of a blank one tell and leave.
use Rattle.std.specs.Prelude.{◌≡◌, Bool, cond, not, ◌&&◌, List, [], ◌∷◌, ℕ, ◌*◌, ◌<◌, eqb, ltb, length, replicate}
use Rattle.numbers.specs.Sizes.{nodes}
use Rattle.numbers.specs.Numbers.{wrong_length, damaged}
use Rattle.numbers.specs.Refusal.{refuse, first_of, lower}
use Rattle.parts.specs.Parts.{part, splice}
use Rattle.hours.specs.Hours.{table_number}
use Rattle.record.specs.Record.{bytes_of}
use Rattle.buffers.specs.declared.Answer.{Answer}
use Rattle.buffers.specs.Buffers.{Buffers, all, station_of, wrong, own_number, host_first, answer_with, with_record_at}
use Rattle.buffers.specs.Buffers.{Whole as StationWhole}
use Rattle.station_calls.specs.Calls.{blank_number as stationNumber, blank_after as station_after}
use Rattle.settings.specs.Settings.{settings_size, blank_settings, settings_number}
use Rattle.frontend.specs.Plan.{list_number}
use Rattle.frontend.specs.Plan.{Call as Front}
use Rattle.service.specs.Service.{Service, front, load_hours, is_on, Outcome, step}

pub record Lent : Type 0 where
  pub station : Buffers
  pub settings : List ℕ

abbrev pub lent : List ℕ → List ℕ → List ℕ → List ℕ → List ℕ → Lent
lent images records pool own settings = record { station = all images records pool own; settings = settings }

abbrev pub all_settings : ℕ
all_settings = settings_size * nodes

-- ---- node n's part of the settings; what is no node has blank ones
unfoldable pub settings_at : List ℕ → ℕ → List ℕ
settings_at l n = part settings_size (settings_size * n) l

unfoldable pub with_settings_at : List ℕ → ℕ → List ℕ → List ℕ
with_settings_at l n s = splice settings_size (settings_size * n) s l

unfoldable pub settings_in : List ℕ → ℕ → List ℕ
settings_in l n = cond (ltb n nodes) (settings_at l n) blank_settings

-- the service that buffers are
abbrev pub service_of : Lent → Service
service_of b = record { machine = station_of b.station; settings = settings_in b.settings }

-- ---- the number of the settings: 1 another length, 2 damaged ones of the node
unfoldable pub settings_first : List ℕ → ℕ → ℕ
settings_first l n =
    first_of (refuse wrong_length (wrong l all_settings) ∷ refuse damaged (ltb n nodes && not (eqb (settings_number (settings_at l n)) 0)) ∷ [])

-- buffers that hold a service: the station's are whole, and so are the settings of every node
pub record Whole (b : Lent) : Type 0 where
  pub station : StationWhole b.station
  pub settings_long : length b.settings ≡ all_settings
  pub settings_fine : (n : ℕ) → n < nodes → settings_number (settings_at b.settings n) ≡ 0

-- ---- what the caller is told: the buffers' number, else the step's own number and answer
unfoldable pub told : ℕ → Outcome → Answer
told first o = cond (eqb first 0) (answer_with o.number o.answer) (answer_with first 0)

-- ---- a front end's call reads and writes its node's record and settings; a node that is off is left as it was
unfoldable pub front_first : Lent → ℕ → Front → ℕ
front_first b n a = lower (lower (host_first b.station n) (settings_first b.settings n)) (list_number a)

abbrev pub front_told : Lent → ℕ → Front → Answer
front_told b n a = told (front_first b n a) (step (service_of b) (front n a))

abbrev pub takes : Lent → ℕ → Front → Bool
takes b n a = eqb (front_first b n a) 0 && is_on (service_of b) n

unfoldable pub front_records : Lent → ℕ → Front → List ℕ
front_records b n a =
    let o = step (service_of b) (front n a) in
    cond (takes b n a) (with_record_at b.station.records n (bytes_of (o.service.machine.records n))) b.station.records

unfoldable pub front_settings : Lent → ℕ → Front → List ℕ
front_settings b n a =
    let o = step (service_of b) (front n a) in
    cond (takes b n a) (with_settings_at b.settings n (o.service.settings n)) b.settings

-- ---- a load reads who is on and the settings
unfoldable pub load_first : Lent → ℕ → List ℕ → ℕ
load_first b n list = lower (lower (own_number b.station.own) (settings_first b.settings n)) (table_number list)

abbrev pub load_told : Lent → ℕ → List ℕ → Answer
load_told b n list = told (load_first b n list) (step (service_of b) (load_hours n list))

unfoldable pub load_settings : Lent → ℕ → List ℕ → List ℕ
load_settings b n list =
    let o = step (service_of b) (load_hours n list) in
    cond (eqb (load_first b n list) 0 && eqb o.number 0) (with_settings_at b.settings n (o.service.settings n)) b.settings

-- ---- a blank service made: 1 another length of any buffer, 4 a mask that names what is no node
unfoldable pub blank_number : Lent → ℕ → ℕ
blank_number b on = lower (stationNumber b.station on) (cond (wrong b.settings all_settings) wrong_length 0)

unfoldable pub blank_after : Lent → ℕ → Lent
blank_after b on =
    cond (eqb (blank_number b on) 0) (record { station = station_after b.station on; settings = replicate all_settings 0 }) b
