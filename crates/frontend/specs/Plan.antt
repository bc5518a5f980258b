-- What a front end makes of each of its host's calls: the number, the answer, the deeds at the record (newest first; crate increments), the settings
-- after it. Every other call of the host is the record's own.
use Rattle.std.specs.Prelude.{Bool, true, cond, not, ◌&&◌, ◌||◌, List, [], ◌∷◌, ℕ, eqb, ltb}
use Rattle.numbers.specs.Numbers.{wrong_length, garbled, stranger, out_of_turn, used_up, busy, outside_hours}
use Rattle.numbers.specs.Refusal.{refuse, first_of, lower}
use Rattle.hours.specs.Hours.{last_minute}
use Rattle.hours.specs.Kept.{closed}
use Rattle.classes.specs.Classes.{tallies, no_table, table_number}
use Rattle.classes.specs.Classes.{length_number as tableLength}
use Rattle.classes.specs.Weights.{overweight, batch_length, grams_of, left_of}
use Rattle.coordinator.specs.declared.Coordinator.{Coordinator}
use Rattle.coordinator.specs.declared.BeginWith.{BeginWith}
use Rattle.coordinator.specs.System.{System, tree}
use Rattle.coordinator.specs.State.{idle_phase, aborted}
use Rattle.coordinator.specs.Calls.{no_node, begin_of, request_commit_of}
use Rattle.increments.specs.Deeds.{Edit, Deed, begins, edits, asks, aborts, edit_of, ran, Amount, amounts, adding, in_use, summing, any_past}
use Rattle.record.specs.declared.Called.{Called}
use Rattle.record.specs.Record.{record_of, bytes_of, check}
use Rattle.record.specs.Call.{called}
use Rattle.settings.specs.Settings.{hours_in, classes_in, own_kind, batch_kind, adds, tenths, settled_as, no_tenths, settings_number, classed}

pub data Call : Type 0 where
  -- a transaction begins on a day, at a minute: the host's own, or one that books a list of weights
  begin : BeginWith → ℕ → ℕ → Call
  batch : BeginWith → ℕ → ℕ → List ℕ → Call
  -- the host's own open or value call; votes are asked for; a table of classes, as it is lent
  edit : Edit → Call
  request : Call
  load_classes : List ℕ → Call

pub record Plan : Type 0 where
  pub number : ℕ
  pub answer : ℕ
  pub deeds : List Deed
  pub settings : List ℕ

abbrev pub refused_plan : ℕ → List ℕ → Plan
refused_plan number s = record { number = number; answer = 0; deeds = []; settings = s }

-- a batch that is given up
abbrev pub given_up : List ℕ → Plan
given_up s = record { number = used_up; answer = aborted; deeds = aborts ∷ []; settings = s }

-- a plan that is refused with a number, or goes ahead
abbrev pub planned : ℕ → ℕ → List Deed → List ℕ → List ℕ → Plan
planned number answer deeds after s =
    cond (eqb number 0) (record { number = 0; answer = answer; deeds = deeds; settings = after }) (refused_plan number s)

-- a step that is out of turn here, whatever else: 4 and 10 still precede 5
abbrev pub out_of_turn_after : ℕ → ℕ
out_of_turn_after number = cond (eqb number stranger || eqb number busy) number out_of_turn

abbrev pub barred : Bool → ℕ → ℕ
barred t number = cond t (out_of_turn_after number) number

-- ---- a begin whose own number is known: 3 a minute above 10,079 (also before any table), the begin's own 4, 10, 5, 8, 9, "given last" 13
unfoldable pub begin_number : List ℕ → ℕ → ℕ → ℕ → ℕ
begin_number s day minute number =
    cond (ltb last_minute minute) garbled (cond (eqb number 0 && closed (hours_in s) day minute) outside_hours number)

abbrev pub begin_plan : System → Coordinator → List ℕ → ℕ → BeginWith → ℕ → ℕ → Plan
begin_plan y c s me w day minute =
    let b = begin_of y c me w in
    planned (begin_number s day minute b.number) b.answer (begins w ∷ []) (settled_as own_kind no_tenths c s) s

-- ---- a batch: 1 its length, 3 its weights, then as a begin, with 5 also "before any table"
unfoldable pub batch_number : List ℕ → ℕ → ℕ → List ℕ → ℕ → ℕ
batch_number s day minute list number =
    first_of (refuse wrong_length (not (eqb (batch_length list) 0)) ∷ refuse garbled (overweight list)
    ∷ refuse (begin_number s day minute (barred (no_table (classes_in s)) number)) true ∷ [])

-- "one booking that adds whole grams to each class's tally"
abbrev pub booked : Coordinator → List ℕ → List ℕ → List Amount
booked c s list = amounts (tallies (classes_in s)) (grams_of (classes_in s) (tenths c s) list)

abbrev pub batch_by : ℕ → System → Coordinator → List ℕ → ℕ → BeginWith → List ℕ → Plan
batch_by number y c s me w list =
    planned number (begin_of y c me w).answer (adding (booked c s list) (begins w ∷ []))
    (settled_as batch_kind (left_of (classes_in s) (tenths c s) list) c s) s

abbrev pub batch_plan : System → Coordinator → List ℕ → ℕ → BeginWith → ℕ → ℕ → List ℕ → Plan
batch_plan y c s me w day minute list = batch_by (batch_number s day minute list (begin_of y c me w).number) y c s me w list

-- ---- an open or a value call: 5 on a batch
abbrev pub edit_plan : Coordinator → List ℕ → ℕ → Edit → Plan
edit_plan c s me e = let b = edit_of c me e in planned (barred (adds s) b.number) b.answer (edits e ∷ []) s s

-- ---- votes asked for: on a batch each amount is added; "a new value past the 64-bit range gives 9 and the booking is given up", with 'aborted' for an answer
abbrev pub request_by : Bool → System → Coordinator → List ℕ → ℕ → Plan
request_by adding y c s me =
    let b = request_commit_of y c me in
    cond (adding && (eqb b.number 0 && any_past c)) (given_up s)
    (planned b.number b.answer (asks ∷ cond adding (summing (in_use c) []) []) s s)

abbrev pub request_plan : System → Coordinator → List ℕ → ℕ → Plan
request_plan y c s me = request_by (adds s) y c s me

-- ---- classes loaded: 1, 4, 6, 10, 14, 15
unfoldable pub classes_number : Coordinator → ℕ → List ℕ → ℕ
classes_number c me list =
    first_of (refuse wrong_length (not (eqb (tableLength list) 0)) ∷ refuse stranger (no_node me)
    ∷ refuse (table_number (not (eqb c.phase idle_phase)) list) true ∷ [])

-- ---- the plan
unfoldable pub plan : System → Coordinator → List ℕ → ℕ → Call → Plan
plan y c s me (begin w day minute) = begin_plan y c s me w day minute
plan y c s me (batch w day minute list) = batch_plan y c s me w day minute list
plan y c s me (edit e) = edit_plan c s me e
plan y c s me request = request_plan y c s me
plan y c s me (load_classes list) = planned (classes_number c me list) 0 [] (classed s list) s

-- ---- its number at a node that is off: 5, with the numbers that still precede it
unfoldable pub off_number : Call → ℕ → ℕ
off_number (load_classes list) number = cond (eqb number wrong_length || eqb number stranger) number out_of_turn
off_number (begin w day minute) number = cond (eqb number garbled) number (out_of_turn_after number)
off_number (batch w day minute list) number = cond (eqb number wrong_length || eqb number garbled) number (out_of_turn_after number)
off_number (edit e) number = out_of_turn_after number
off_number request number = out_of_turn_after number

-- its number at what is no node
unfoldable pub nowhere : Call → ℕ
nowhere (begin w day minute) = cond (ltb last_minute minute) garbled stranger
nowhere (batch w day minute list) =
    cond (not (eqb (batch_length list) 0)) (batch_length list) (cond (overweight list || ltb last_minute minute) garbled stranger)
nowhere (edit e) = stranger
nowhere request = stranger
nowhere (load_classes list) = cond (not (eqb (tableLength list) 0)) (tableLength list) stranger

-- ---- on a record and settings as bytes: 1 and 2 of both come first, with 1 of a list that is lent
unfoldable pub list_number : Call → ℕ
list_number (batch w day minute list) = batch_length list
list_number (load_classes list) = tableLength list
list_number (begin w day minute) = 0
list_number (edit e) = 0
list_number request = 0

unfoldable pub lent_number : List ℕ → List ℕ → ℕ
lent_number bytes settings = lower (check bytes) (settings_number settings)

unfoldable pub first_number : List ℕ → List ℕ → Call → ℕ
first_number bytes settings a = lower (lent_number bytes settings) (list_number a)

abbrev pub plan_on : List ℕ → List ℕ → ℕ → Call → Plan
plan_on bytes settings me a = plan tree (record_of bytes) settings me a

abbrev pub told_by : Plan → Called
told_by p = called p.number p.answer

abbrev pub left_by : Plan → List ℕ → ℕ → List ℕ
left_by p bytes me = bytes_of (ran tree (record_of bytes) me p.deeds)

-- a batch that nothing but the record refuses
abbrev pub batch_here : List ℕ → List ℕ → ℕ → BeginWith → List ℕ → Plan
batch_here bytes settings me w list = batch_by (begin_of tree (record_of bytes) me w).number tree (record_of bytes) settings me w list

-- what the caller is told; the record and the settings after it
unfoldable pub front_told : List ℕ → List ℕ → ℕ → Call → Called
front_told bytes settings me a =
    cond (eqb (first_number bytes settings a) 0) (told_by (plan_on bytes settings me a)) (called (first_number bytes settings a) 0)

unfoldable pub front_record : List ℕ → List ℕ → ℕ → Call → List ℕ
front_record bytes settings me a =
    cond (eqb (first_number bytes settings a) 0) (left_by (plan_on bytes settings me a) bytes me) bytes

unfoldable pub front_settings : List ℕ → List ℕ → ℕ → Call → List ℕ
front_settings bytes settings me a = cond (eqb (first_number bytes settings a) 0) (plan_on bytes settings me a).settings settings

-- its number at a node that is off
unfoldable pub off_told : List ℕ → List ℕ → ℕ → Call → ℕ
off_told bytes settings me a =
    cond (eqb (first_number bytes settings a) 0) (off_number a (plan_on bytes settings me a).number) (first_number bytes settings a)
