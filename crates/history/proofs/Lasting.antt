-- No step changes the quorums that the station works by.
use mathlib.Core.Path.{◌≡◌, refl, ◌∙◌}
use mathlib.Core.Bool.{Bool, cond, not, ◌&&◌}
use mathlib.Core.List.{List, [], ◌∷◌}
use Prim.Native.Nat.{ℕ}
use lib.Dec.{eqb, ltb}
use lib.ListN.{length, get_or}
use Rattle.numbers.specs.Sizes.{longest_message}
use Rattle.mask.specs.Mask.{contains}
use Rattle.wire.specs.Encode.{encode}
use Rattle.wire.specs.Decode.{kind_of, to_of, check_of}
use Rattle.replica.specs.Steps.{Answer, silent, says}
use Rattle.replica.specs.Receive.{deliver}
use Rattle.replica.proofs.Delivered.{either_way}
use Rattle.coordinator.specs.Step.{Step}
use Rattle.coordinator.specs.Calls.{no_node}
use Rattle.arrivals.specs.Receive.{for_replica, receive_of}
use Rattle.due.specs.Kind.{due_kind}
use Rattle.due.specs.Due.{message_due}
use Rattle.steps.specs.Station.{Station, system}
use Rattle.steps.specs.Step.{Call, begin, open_read, open_write, set_value, found, reselect, request_commit, abort, send, delivery, drop, switch, step}
use Rattle.steps.specs.Step.{Outcome}
use Rattle.steps.specs.Step.{refused_with, taken, putting, full, send_number, send_of, hosted, answered, at_replica, at_coordinator, arriving, delivery_of}
use Rattle.steps.specs.Step.{drop_of, switch_of}
use Rattle.steps.specs.Run.{after}

module _ (st : Station) where
  abbrev Same : Outcome → Type 0
  Same r = system r.station ≡ system st

  hosted_same : (n : ℕ) (s : Step) → Same (hosted st n s)
  unfolding hosted
  hosted_same n s = either_way Same (contains st.own.on n) _ _ (either_way Same (eqb s.number 0) _ _ refl refl) refl

  send_same : (n to object : ℕ) → Same (send_of st n to object)
  unfolding send_of
  send_same n to object =
      let kind = due_kind (system st) (st.records n) to object in
      let m = message_due (st.records n) n to object kind in
      let due = not (eqb kind 0) in
      let number = send_number st n to object m due in
      either_way Same (eqb number 0) (cond due (putting (encode m) st) (taken 0 st)) (refused_with number st)
      (either_way Same due (putting (encode m) st) (taken 0 st) refl refl) refl

  answered_same : (k : ℕ) (kept : Bool) (n : ℕ) (l : List ℕ) (a : Answer) → Same (answered st k kept n l a)
  unfolding answered
  answered_same k kept n l silent = refl
  answered_same k kept n l (says m) = either_way Same (kept && full st) _ _ refl refl

  arriving_same : (k : ℕ) (kept : Bool) (b : List ℕ) → Same (arriving st k kept b)
  unfolding arriving at_replica at_coordinator
  arriving_same k kept b =
      let n = to_of b in
      let d = deliver longest_message (st.images n) n b in
      either_way Same (contains st.own.on n) _ _
      (either_way Same (for_replica (kind_of b)) _ _
      (either_way Same (eqb d.number 0) _ _ (answered_same k kept n d.image d.answer) refl)
      (either_way Same (eqb (receive_of (system st) (st.records n) n b).number 0) _ _ refl refl)) refl

  delivery_same : (k : ℕ) (kept : Bool) → Same (delivery_of st k kept)
  unfolding delivery_of
  delivery_same k kept =
      let b = get_or st.pool k [] in
      either_way Same (ltb k (length st.pool)) _ _ (either_way Same (eqb (check_of b) 0) _ _ (arriving_same k kept b) refl) refl

  pub same_system : (c : Call) → system (step st c).station ≡ system st
  unfolding step drop_of switch_of
  same_system (begin n a) = hosted_same n _
  same_system (open_read n t) = hosted_same n _
  same_system (open_write n t) = hosted_same n _
  same_system (set_value n t v) = hosted_same n _
  same_system (found n t) = hosted_same n _
  same_system (reselect n live d) = hosted_same n _
  same_system (request_commit n) = hosted_same n _
  same_system (abort n) = hosted_same n _
  same_system (send n to t) = send_same n to t
  same_system (delivery k kept) = delivery_same k kept
  same_system (drop k) = either_way Same (ltb k (length st.pool)) _ _ refl refl
  same_system (switch n up) = either_way Same (no_node n) _ _ refl refl

-- nor does a list of steps: from a blank station it is the tree
pub lasting_system : (st : Station) (cs : List Call) → system (after st cs) ≡ system st
lasting_system st [] = refl
lasting_system st (c ∷ cs) = same_system (after st cs) c ∙ lasting_system st cs
