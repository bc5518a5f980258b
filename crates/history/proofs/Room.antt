-- The pool never has more than 128 messages: a send needs room, and so does an answer unless its message is gone.
use mathlib.Core.Path.{◌≡◌, refl}
use mathlib.Core.Bool.{Bool, true, false, cond, not, ◌&&◌}
use mathlib.Core.List.{List, [], ◌∷◌, ◌++◌}
use Prim.Native.Nat.{ℕ, ◌+◌, ◌<◌, ◌≤◌}
use native.Mathlib.Omega.{arith}
use lib.Dec.{eqb, ltb}
use lib.ListN.{length, get_or, take, length-append, length-drop}
use lib.Seq.{length-take-le}
use borrow.Author.Tests.{eqb-true, eqb-false, ltb-true}
use Rattle.numbers.specs.Sizes.{longest_message, most_waiting}
use Rattle.mask.specs.Mask.{contains}
use Rattle.numbers.specs.Refusal.{first_of}
use Rattle.wire.specs.Formed.{well_formed}
use Rattle.wire.specs.Encode.{encode}
use Rattle.wire.specs.Decode.{kind_of, to_of, check_of}
use Rattle.replica.specs.Steps.{Answer, silent, says}
use Rattle.replica.specs.Receive.{deliver}
use Rattle.replica.proofs.Delivered.{either_way}
use Rattle.coordinator.specs.Step.{Step}
use Rattle.coordinator.specs.Calls.{no_node}
use Rattle.arrivals.specs.Receive.{for_replica, receive_of}
use Rattle.due.specs.Kind.{due_kind, due_refusals}
use Rattle.clauses.proofs.Parts.{on_cond}
use Rattle.due.specs.Due.{message_due}
use Rattle.steps.specs.Station.{Station, system, without}
use Rattle.steps.specs.Step.{Call, begin, open_read, open_write, set_value, found, reselect, request_commit, abort, send, delivery, drop, switch, step}
use Rattle.steps.specs.Step.{Outcome}
use Rattle.steps.specs.Step.{refused_with, taken, putting, full, when_off, send_number, send_of, hosted, answered, at_replica, at_coordinator, arriving}
use Rattle.steps.specs.Step.{delivery_of}
use Rattle.steps.specs.Step.{drop_of, switch_of}
use Rattle.history.proofs.Tests.{not-false}
use Rattle.steps.proofs.Nodes.{off_number_lem}

-- ---- lists
pub length_without : {A : Type 0} (k : ℕ) (l : List A) → k < length l → length (without k l) + 1 ≡ length l
length_without k l h =
    let a = length-append (take k l) (lib.ListN.drop (k + 1) l) in
    let b = length-take-le k l (omega (arith, h)) in
    let d = length-drop (k + 1) l in
    omega (arith, a, b, d, h)

module _ (st : Station) (room : length st.pool ≤ most_waiting) where
  abbrev Room : Outcome → Type 0
  Room r = length r.station.pool ≤ most_waiting

  -- one message more
  more : (l : List (List ℕ)) (b : List ℕ) → length l < most_waiting → length (l ++ (b ∷ [])) ≤ most_waiting
  more l b h = let a = length-append l (b ∷ []) in omega (arith, a, h)

  not_full : full st ≡ false → length st.pool < most_waiting
  not_full e = ltb-true (length st.pool) most_waiting (not-false _ e)

  hosted_room : (n : ℕ) (s : Step) → Room (hosted st n s)
  unfolding hosted
  hosted_room n s = either_way Room (contains st.own.on n) _ _ (either_way Room (eqb s.number 0) _ _ room room) room

  module _ (k : ℕ) (waits : k < length st.pool) where
    taken_less : (kept : Bool) → length (cond kept st.pool (without k st.pool)) ≤ most_waiting
    taken_less true = room
    taken_less false = let a = length_without k st.pool waits in omega (arith, a, room)

    put_less : (kept : Bool) (b : List ℕ) → (kept && full st) ≡ false → length (cond kept st.pool (without k st.pool) ++ (b ∷ [])) ≤ most_waiting
    put_less true b e = more st.pool b (not_full e)
    put_less false b e = more (without k st.pool) b (let a = length_without k st.pool waits in omega (arith, a, room))

    answered_room : (kept : Bool) (n : ℕ) (l : List ℕ) (a : Answer) → Room (answered st k kept n l a)
    unfolding answered
    answered_room kept n l silent = taken_less kept
    answered_room kept n l (says m) = on_cond Room (kept && full st) _ _ (λ e. room) (λ e. put_less kept (encode m) e)

    arriving_room : (kept : Bool) (b : List ℕ) → Room (arriving st k kept b)
    unfolding arriving at_replica at_coordinator
    arriving_room kept b = either_way Room (contains st.own.on (to_of b)) _ _
        (either_way Room (for_replica (kind_of b)) _ _
        (let d = deliver longest_message (st.images (to_of b)) (to_of b) b in
        either_way Room (eqb d.number 0) _ _ (answered_room kept (to_of b) d.image d.answer) room)
        (either_way Room (eqb (receive_of (system st) (st.records (to_of b)) (to_of b) b).number 0) _ _ (taken_less kept) room))
        (taken_less kept)

  delivery_room : (k : ℕ) (kept : Bool) → Room (delivery_of st k kept)
  unfolding delivery_of
  delivery_room k kept =
      let b = get_or st.pool k [] in
      on_cond Room (ltb k (length st.pool)) _ _
      (λ e. either_way Room (eqb (check_of b) 0) _ _ (arriving_room k (ltb-true k (length st.pool) e) kept b) room) (λ e. room)

  -- a send that nothing refuses has room
  send_by : (up x q : Bool) (number : ℕ) → eqb number 0 ≡ x → cond up (cond (not x) number (cond q 3 (cond (full st) 12 0))) (when_off number) ≡ 0
      → full st ≡ false
  send_by true true true number p e = absurd (let z : ⊥ = omega (arith, e) in z)
  send_by true true false number p e = by (full st) e
    where
      by : (x : Bool) → ◌≡◌ {A = ℕ} (cond x 12 0) 0 → x ≡ false
      by true q = absurd (let z : ⊥ = omega (arith, q) in z)
      by false q = refl
  send_by true false q number p e = absurd (eqb-false number 0 p e)
  send_by false x q number p e = absurd (off_number_lem number e)

  send_room : (n to object : ℕ) → Room (send_of st n to object)
  unfolding send_of send_number
  send_room n to object =
      let c = st.records n in
      let kind = due_kind (system st) c to object in
      let a = message_due c n to object kind in
      let refused = first_of (due_refusals c n to object) in
      let number = send_number st n to object a (not (eqb kind 0)) in
      on_cond Room (eqb number 0) (cond (not (eqb kind 0)) (putting (encode a) st) (taken 0 st)) (refused_with number st)
      (λ e. either_way Room (not (eqb kind 0)) (putting (encode a) st) (taken 0 st)
      (more st.pool (encode a) (not_full
      (send_by (contains st.own.on n) (eqb refused 0) (not (eqb kind 0) && not (well_formed a)) refused refl (eqb-true number 0 e)))) room)
      (λ e. room)

  pub room_next : (call : Call) → length (step st call).station.pool ≤ most_waiting
  unfolding step drop_of switch_of
  room_next (begin n a) = hosted_room n _
  room_next (open_read n x) = hosted_room n _
  room_next (open_write n x) = hosted_room n _
  room_next (set_value n x v) = hosted_room n _
  room_next (found n x) = hosted_room n _
  room_next (reselect n live d) = hosted_room n _
  room_next (request_commit n) = hosted_room n _
  room_next (abort n) = hosted_room n _
  room_next (send n to x) = send_room n to x
  room_next (delivery k kept) = delivery_room k kept
  room_next (drop k) = on_cond Room (ltb k (length st.pool)) _ _ (λ e. taken_less k (ltb-true k (length st.pool) e) false) (λ e. room)
  room_next (switch n up) = either_way Room (no_node n) _ _ room room
