-- The service: the station's machine (crate steps) with the settings of thirteen front ends, and its steps. A front end turns a host's call into none or
-- some of the machine's own steps; every other step is the machine's own. A refused step leaves everything as it was, but a request that gives up.
use Rattle.std.specs.Prelude.{◌≡◌, Bool, true, false, cond, not, List, [], ◌∷◌, ℕ, eqb}
use Rattle.std.proofs.Math.Option.{Option, none}
use Rattle.numbers.specs.Numbers.{stranger, out_of_turn}
use Rattle.numbers.specs.Refusal.{refuse, first_of}
use Rattle.mask.specs.Mask.{contains}
use Rattle.hours.specs.Hours.{table_number}
use Rattle.coordinator.specs.Calls.{no_node}
use Rattle.increments.specs.Deeds.{reads, writes, values, Deed, begins, edits, asks, aborts}
use Rattle.steps.specs.Station.{Station, system, put_at, blank_station}
use Rattle.steps.specs.Step.{begin, open_read, open_write, set_value, found, reselect, request_commit, abort, send, delivery, drop, switch}
use Rattle.steps.specs.Step.{Call as Step, step as step_of}
use Rattle.steps.specs.Run.{after}
use Rattle.settings.specs.Settings.{blank_settings, loaded}
use Rattle.frontend.specs.Plan.{Plan, plan, off_number}
use Rattle.frontend.specs.Plan.{Call as Front}

-- by node its settings (the bytes); what is no node has blank ones, and they stay so
pub record Service : Type 0 where
  pub machine : Station
  pub settings : ℕ → List ℕ

abbrev pub blank_service : ℕ → Service
blank_service on = record { machine = blank_station on; settings = λ n. blank_settings }

-- ---- what a step is asked to do
-- the machine's steps that a front end stands before
abbrev pub is_front : Step → Bool
is_front (begin n w) = true
is_front (open_read n t) = true
is_front (open_write n t) = true
is_front (set_value n t v) = true
is_front (found n t) = false
is_front (reselect n live d) = false
is_front (request_commit n) = true
is_front (abort n) = false
is_front (send n to t) = false
is_front (delivery k kept) = false
is_front (drop k) = false
is_front (switch n up) = false

pub data Call : Type 0 where
  -- a call at a node that its front end plans; a table of hours for a node, as it is lent
  front : ℕ → Front → Call
  load_hours : ℕ → List ℕ → Call
  -- any other step of the machine
  plain : (c : Step) → is_front c ≡ false → Call

-- ---- a front end's call at a node
abbrev pub plan_at : Service → ℕ → Front → Plan
plan_at v n a = plan (system v.machine) (v.machine.records n) (v.settings n) n a

abbrev pub is_on : Service → ℕ → Bool
is_on v n = contains v.machine.own.on n

-- a deed at a node's record is the machine's step
abbrev pub step_at : ℕ → Deed → Step
step_at n (begins w) = begin n w
step_at n (edits (reads t)) = open_read n t
step_at n (edits (writes t)) = open_write n t
step_at n (edits (values t v)) = set_value n t v
step_at n asks = request_commit n
step_at n aborts = abort n

abbrev pub steps_at : ℕ → List Deed → List Step
steps_at n [] = []
steps_at n (d ∷ ds) = step_at n d ∷ steps_at n ds

-- ---- hours loaded, in any phase: 1 and 2 of the table, 4 no such node, 5 a node that is off
unfoldable pub load_number : Service → ℕ → List ℕ → ℕ
load_number v n list =
    first_of (refuse (table_number list) (not (eqb (table_number list) 0)) ∷ refuse stranger (no_node n) ∷ refuse out_of_turn (not (is_on v n)) ∷ [])

-- ---- a step: its number, its answer (0 where there is none), the message that it puts into the pool, the machine's steps that it makes (newest first),
-- and the settings after it
unfoldable pub number_of : Service → Call → ℕ
number_of v (front n a) = cond (is_on v n) (plan_at v n a).number (off_number a (plan_at v n a).number)
number_of v (load_hours n list) = load_number v n list
number_of v (plain c p) = (step_of v.machine c).number

unfoldable pub answer_of : Service → Call → ℕ
answer_of v (front n a) = cond (is_on v n) (plan_at v n a).answer 0
answer_of v (load_hours n list) = 0
answer_of v (plain c p) = (step_of v.machine c).answer

unfoldable pub put_of : Service → Call → Option (List ℕ)
put_of v (front n a) = none
put_of v (load_hours n list) = none
put_of v (plain c p) = (step_of v.machine c).put

unfoldable pub made : Service → Call → List Step
made v (front n a) = cond (is_on v n) (steps_at n (plan_at v n a).deeds) []
made v (load_hours n list) = []
made v (plain c p) = c ∷ []

unfoldable pub settings_of : Service → Call → ℕ → List ℕ
settings_of v (front n a) = cond (is_on v n) (put_at v.settings n (plan_at v n a).settings) v.settings
settings_of v (load_hours n list) = cond (eqb (load_number v n list) 0) (put_at v.settings n (loaded (v.settings n) list)) v.settings
settings_of v (plain c p) = v.settings

pub record Outcome : Type 0 where
  pub number : ℕ
  pub answer : ℕ
  pub put : Option (List ℕ)
  pub service : Service

abbrev pub step : Service → Call → Outcome
step v c =
    record {
      number = number_of v c;
      answer = answer_of v c;
      put = put_of v c;
      service = record { machine = after v.machine (made v c); settings = settings_of v c };
    }
