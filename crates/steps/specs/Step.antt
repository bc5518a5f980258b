-- The station's steps: a host call, a send of what is due, a delivery of any waiting message (kept or not), a drop, and switching a node off or on.
-- A refused step leaves everything as it was.
use Rattle.std.specs.Prelude.{Bool, true, cond, not, ◌&&◌, ◌||◌, List, [], ◌∷◌, ℕ, eqb, ltb, length, get_or}
use Rattle.std.proofs.Math.Option.{Option, none, some}
use Rattle.numbers.specs.Sizes.{longest_message, most_waiting}
use Rattle.mask.specs.Mask.{contains, only, joined, minus}
use Rattle.numbers.specs.Numbers.{garbled, stranger, out_of_turn, busy, pool_full}
use Rattle.numbers.specs.Refusal.{refuse, first_of}
use Rattle.wire.specs.Message.{Message}
use Rattle.wire.specs.Formed.{well_formed}
use Rattle.wire.specs.Encode.{encode}
use Rattle.wire.specs.Decode.{kind_of, to_of, check_of}
use Rattle.replica.specs.Steps.{Answer, silent, says}
use Rattle.replica.specs.Receive.{Delivered, deliver}
use Rattle.coordinator.specs.declared.Coordinator.{Coordinator}
use Rattle.coordinator.specs.declared.BeginWith.{BeginWith}
use Rattle.coordinator.specs.Step.{Step}
use Rattle.coordinator.specs.Calls.{no_node, begin_of, open_of, set_of, found_of, reselect_of, request_commit_of, abort_of}
use Rattle.arrivals.specs.Receive.{for_replica, receive_of}
use Rattle.due.specs.Kind.{no_kind, due_kind, due_refusals}
use Rattle.due.specs.Due.{message_due}
use Rattle.steps.specs.Station.{Station, system, with_image, with_record, with_pool, with_on, sent, without}

-- ---- what a step is asked to do; a number is a node's unless it says otherwise
pub data Call : Type 0 where
  -- the host's calls at a node: an object, an object and its new value, a live mask with thirteen distances
  begin : ℕ → BeginWith → Call
  open_read : ℕ → ℕ → Call
  open_write : ℕ → ℕ → Call
  set_value : ℕ → ℕ → ℕ → Call
  found : ℕ → ℕ → Call
  reselect : ℕ → ℕ → List ℕ → Call
  request_commit : ℕ → Call
  abort : ℕ → Call
  -- a node sends what is due to a node, while open for an object
  send : ℕ → ℕ → ℕ → Call
  -- the k-th waiting message is delivered, kept waiting or not; it is dropped
  delivery : ℕ → Bool → Call
  drop : ℕ → Call
  -- a node is switched on (true) or off
  switch : ℕ → Bool → Call

-- ---- what a step gives: its number, its answer (0 where there is none), the message that it put into the pool, and the station after it
pub record Outcome : Type 0 where
  pub number : ℕ
  pub answer : ℕ
  pub put : Option (List ℕ)
  pub station : Station

abbrev pub refused_with : ℕ → Station → Outcome
refused_with number st = record { number = number; answer = 0; put = none; station = st }

abbrev pub taken : ℕ → Station → Outcome
taken answer st = record { number = 0; answer = answer; put = none; station = st }

-- the same with a message put at the pool's end
abbrev pub putting : List ℕ → Station → Outcome
putting b st = record { number = 0; answer = 0; put = some b; station = sent st b }

-- ---- a host call. At a node that is off it is 5; a node above 12 is still 4, and at begin 10 still precedes 5
abbrev pub when_off : ℕ → ℕ
when_off number = cond (eqb number stranger || eqb number busy) number out_of_turn

unfoldable pub hosted : Station → ℕ → Step → Outcome
hosted st n s =
    cond (contains st.own.on n) (cond (eqb s.number 0) (taken s.answer (with_record st n s.coordinator)) (refused_with s.number st))
    (refused_with (when_off s.number) st)

-- ---- a send: 4, 5, 6, then 12 for a full pool even where nothing is due. (3: a record that no run has, whose message is not well formed)
abbrev pub full : Station → Bool
full st = not (ltb (length st.pool) most_waiting)

unfoldable pub send_number : Station → ℕ → ℕ → ℕ → Message → Bool → ℕ
send_number st n to object m due =
    let number = first_of (due_refusals (st.records n) n to object) in
    cond (contains st.own.on n)
    (first_of (refuse number (not (eqb number 0)) ∷ refuse garbled (due && not (well_formed m)) ∷ refuse pool_full (full st) ∷ []))
    (when_off number)

unfoldable pub send_of : Station → ℕ → ℕ → ℕ → Outcome
send_of st n to object =
    let kind = due_kind (system st) (st.records n) to object in
    let m = message_due (st.records n) n to object kind in
    let due = not (eqb kind no_kind) in
    let number = send_number st n to object m due in
    cond (eqb number 0) (cond due (putting (encode m) st) (taken 0 st)) (refused_with number st)

-- ---- a delivery
-- the pool without the message, unless it is kept
abbrev pub taken_out : Station → ℕ → Bool → Station
taken_out st k kept = with_pool st (cond kept st.pool (without k st.pool))

-- at a replica: its answer goes to the pool's end. A kept delivery that has an answer, with 128 messages waiting, is 12
unfoldable pub answered : Station → ℕ → Bool → ℕ → List ℕ → Answer → Outcome
answered st k kept n l silent = taken 0 (with_image (taken_out st k kept) n l)
answered st k kept n l (says m) = cond (kept && full st) (refused_with pool_full st) (putting (encode m) (with_image (taken_out st k kept) n l))

unfoldable pub at_replica : Station → ℕ → Bool → ℕ → List ℕ → Outcome
at_replica st k kept n b =
    let d = deliver longest_message (st.images n) n b in
    cond (eqb d.number 0) (answered st k kept n d.image d.answer) (refused_with d.number st)

-- at a coordinator: the step's answer is what the message brought about
unfoldable pub at_coordinator : Station → ℕ → Bool → ℕ → List ℕ → Outcome
at_coordinator st k kept n b =
    let s = receive_of (system st) (st.records n) n b in
    cond (eqb s.number 0) (taken s.answer (with_record (taken_out st k kept) n s.coordinator)) (refused_with s.number st)

-- at the node that the message names; one that is off does nothing
unfoldable pub arriving : Station → ℕ → Bool → List ℕ → Outcome
arriving st k kept b =
    cond (contains st.own.on (to_of b))
    (cond (for_replica (kind_of b)) (at_replica st k kept (to_of b) b) (at_coordinator st k kept (to_of b) b))
    (taken 0 (taken_out st k kept))

-- 5: no such message waits; 1 and 3: what waits is no message
unfoldable pub delivery_of : Station → ℕ → Bool → Outcome
delivery_of st k kept =
    let b = get_or st.pool k [] in
    cond (ltb k (length st.pool)) (cond (eqb (check_of b) 0) (arriving st k kept b) (refused_with (check_of b) st)) (refused_with out_of_turn st)

-- ---- a drop, and a switch; a repeated switch changes nothing
unfoldable pub drop_of : Station → ℕ → Outcome
drop_of st k = cond (ltb k (length st.pool)) (taken 0 (with_pool st (without k st.pool))) (refused_with out_of_turn st)

unfoldable pub switch_of : Station → ℕ → Bool → Outcome
switch_of st n up = cond (no_node n) (refused_with stranger st) (taken 0 (with_on st (cond up (joined st.own.on (only n)) (minus st.own.on (only n)))))

-- ---- the step
unfoldable pub step : Station → Call → Outcome
step st (begin n w) = hosted st n (begin_of (system st) (st.records n) n w)
step st (open_read n object) = hosted st n (open_of (st.records n) n object 0)
step st (open_write n object) = hosted st n (open_of (st.records n) n object 1)
step st (set_value n object value) = hosted st n (set_of (st.records n) n object value)
step st (found n object) = hosted st n (found_of (system st) (st.records n) n object)
step st (reselect n live distances) = hosted st n (reselect_of (system st) (st.records n) n live distances)
step st (request_commit n) = hosted st n (request_commit_of (system st) (st.records n) n)
step st (abort n) = hosted st n (abort_of (st.records n) n)
step st (send n to object) = send_of st n to object
step st (delivery k kept) = delivery_of st k kept
step st (drop k) = drop_of st k
step st (switch n up) = switch_of st n up
