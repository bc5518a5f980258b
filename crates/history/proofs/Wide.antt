-- What else every step keeps: records fit their widths, and what is no node stays blank.
use mathlib.Core.Path.{◌≡◌, refl, sym, subst}
use mathlib.Core.Bool.{Bool, true, false, cond, not, ◌&&◌}
use mathlib.Core.List.{List, [], ◌∷◌, ◌++◌}
use Prim.Native.Nat.{ℕ, ◌<◌, ◌≤◌}
use native.Mathlib.Omega.{arith}
use lib.Dec.{eqb, ltb}
use lib.ListN.{length, get_or}
use borrow.Author.Tests.{eqb-true, ltb-true}
use Rattle.numbers.specs.Sizes.{nodes, longest_message}
use Rattle.mask.specs.Mask.{contains}
use Rattle.octets.proofs.Laws.{Bytes}
use Rattle.wire.specs.Encode.{encode}
use Rattle.wire.specs.Decode.{kind_of, to_of, check_of, decode}
use Rattle.image.specs.Layout.{shape}
use Rattle.image.specs.Blank.{blank_as}
use Rattle.replica.specs.Steps.{Answer, silent, says}
use Rattle.replica.specs.Receive.{refusal, step, Delivered, deliver}
use Rattle.replica.proofs.Delivered.{cleared, either_way}
use Rattle.coordinator.specs.declared.Coordinator.{Coordinator}
use Rattle.coordinator.specs.Step.{Step}
use Rattle.coordinator.specs.Calls.{no_node, found_of}
use Rattle.arrivals.specs.Receive.{for_replica, receive_of}
use Rattle.due.specs.Kind.{due_kind}
use Rattle.due.specs.Due.{message_due}
use Rattle.coordinator.proofs.Theorems.{found_leaves}
use Rattle.clauses.proofs.Quorums.{Quorums}
use Rattle.clauses.proofs.Fits.{Fits, begin_fits, open_fits, set_fits, reselect_fits, request_fits, abort_fits}
use Rattle.clauses_arrive.proofs.Fits.{receive_fits}
use Rattle.steps.specs.Station.{Own, Station, system, put_at}
use Rattle.steps.specs.Step.{Call, begin, open_read, open_write, set_value, found, reselect, request_commit, abort, send, delivery, drop, switch}
use Rattle.steps.specs.Step.{Outcome, refused_with, taken, putting, send_number, hosted, answered, at_replica, at_coordinator, arriving, delivery_of, drop_of}
use Rattle.steps.specs.Step.{switch_of, send_of}
use Rattle.history.specs.Claims.{Typed}
use Rattle.history.proofs.Carry.{put_all}
use Rattle.history.proofs.Books.{Valid}
use Rattle.history.proofs.Arrive.{in_place}

pub record Wide (st : Station) : Type 0 where
  pub fits : (n : ℕ) → Fits (st.records n)
  pub beyond : (n : ℕ) → nodes ≤ n → st.images n ≡ blank_as shape

module _ (st : Station) (w : Wide st) (v : Valid st) (q : Quorums (system st)) where
  -- one record changed, whatever becomes of pool and nodes
  record_wide : (n : ℕ) (c : Coordinator) (pool : List (List ℕ)) (own : Own) → Fits c
      → Wide (record { images = st.images; records = put_at st.records n c; pool = pool; own = own })
  record_wide n c pool own f = record { fits = put_all (λ (i : ℕ) (d : Coordinator). Fits d) st.records n c f (λ i e. w.fits i); beyond = w.beyond }

  hosted_wide : (n : ℕ) (s : Step) → Fits s.coordinator → Wide (hosted st n s).station
  unfolding hosted
  hosted_wide n s f = either_way (λ (r : Outcome). Wide r.station) (contains st.own.on n) _ _
      (either_way (λ (r : Outcome). Wide r.station) (eqb s.number 0) _ _ (record_wide n s.coordinator st.pool st.own f) w) w

  -- one image changed at a node
  image_wide : (n : ℕ) (l : List ℕ) (pool : List (List ℕ)) → n < nodes
      → Wide (record { images = put_at st.images n l; records = st.records; pool = pool; own = st.own })
  image_wide n l pool h = record {
    fits = w.fits;
    beyond = put_all (λ (i : ℕ) (l : List ℕ). nodes ≤ i → l ≡ blank_as shape) st.images n l (λ g. absurd (let z : ⊥ = omega arith in z))
        (λ i e. w.beyond i);
  }

  pool_wide : (pool : List (List ℕ)) (own : Own) → Wide (record { images = st.images; records = st.records; pool = pool; own = own })
  pool_wide pool own = record { fits = w.fits; beyond = w.beyond }

  answered_wide : (k : ℕ) (kept : Bool) (n : ℕ) (l : List ℕ) (a : Answer) → n < nodes → Wide (answered st k kept n l a).station
  unfolding answered
  answered_wide k kept n l silent h = image_wide n l _ h
  answered_wide k kept n l (says m) h = either_way (λ (r : Outcome). Wide r.station) (kept && Rattle.steps.specs.Step.full st) _ _ w (image_wide n l _ h)

  replica_wide : (k : ℕ) (kept : Bool) (n : ℕ) (b : List ℕ) → Wide (at_replica st k kept n b).station
  unfolding at_replica deliver
  replica_wide k kept n b = by (eqb (refusal longest_message (st.images n) n b) 0) refl
    where
      by : (g : Bool) → eqb (refusal longest_message (st.images n) n b) 0 ≡ g
          → Wide (cond (eqb (cond {A = Delivered} g (step (st.images n) n (decode b))
          (record { number = refusal longest_message (st.images n) n b; image = st.images n; answer = silent })).number 0)
          (answered st k kept n (cond {A = Delivered} g (step (st.images n) n (decode b))
          (record { number = refusal longest_message (st.images n) n b; image = st.images n; answer = silent })).image
          (cond {A = Delivered} g (step (st.images n) n (decode b))
          (record { number = refusal longest_message (st.images n) n b; image = st.images n; answer = silent })).answer)
          (refused_with (cond {A = Delivered} g (step (st.images n) n (decode b))
          (record { number = refusal longest_message (st.images n) n b; image = st.images n; answer = silent })).number st)).station
      by true e = either_way (λ (r : Outcome). Wide r.station) (eqb (step (st.images n) n (decode b)).number 0) _ _
          (answered_wide k kept n _ _ (cleared longest_message (st.images n) n b (eqb-true _ 0 e)).node) w
      by false e = subst (λ (t : Bool). Wide (cond t (answered st k kept n (st.images n) silent)
          (refused_with (refusal longest_message (st.images n) n b) st)).station) (sym e) w

  coordinator_wide : (k : ℕ) (kept : Bool) (n : ℕ) (b : List ℕ) → Bytes b → Wide (at_coordinator st k kept n b).station
  unfolding at_coordinator
  coordinator_wide k kept n b y = either_way (λ (r : Outcome). Wide r.station) (eqb (receive_of (system st) (st.records n) n b).number 0) _ _
      (record_wide n _ _ st.own (receive_fits (system st) q (st.records n) n (v.records n) (w.fits n) b y)) w

  delivery_wide : (k : ℕ) (kept : Bool) → Wide (delivery_of st k kept).station
  unfolding delivery_of arriving
  delivery_wide k kept = by (ltb k (length st.pool)) refl
    where
      b : List ℕ
      b = get_or st.pool k []

      by : (x : Bool) → ltb k (length st.pool) ≡ x
          → Wide (cond x (cond (eqb (check_of b) 0) (arriving st k kept b) (refused_with (check_of b) st))
          (refused_with 5 st)).station
      by true e = either_way (λ (r : Outcome). Wide r.station) (eqb (check_of b) 0) _ _
          (either_way (λ (r : Outcome). Wide r.station) (contains st.own.on (to_of b)) _ _
          (either_way (λ (r : Outcome). Wide r.station) (for_replica (kind_of b)) _ _ (replica_wide k kept (to_of b) b)
          (coordinator_wide k kept (to_of b) b (v.messages b (in_place st.pool k [] (ltb-true k (length st.pool) e)))))
          (pool_wide _ st.own))
          w
      by false e = w

  send_wide : (n to t : ℕ) → Wide (send_of st n to t).station
  unfolding send_of
  send_wide n to t =
      let kind = due_kind (system st) (st.records n) to t in
      let m = message_due (st.records n) n to t kind in
      let due = not (eqb kind 0) in
      let number = send_number st n to t m due in
      either_way (λ (r : Outcome). Wide r.station) (eqb number 0) (cond due (putting (encode m) st) (taken 0 st)) (refused_with number st)
      (either_way (λ (r : Outcome). Wide r.station) due (putting (encode m) st) (taken 0 st) (pool_wide (st.pool ++ (encode m ∷ [])) st.own) w) w

  found_wide : (n t : ℕ) → Fits (found_of (system st) (st.records n) n t).coordinator
  found_wide n t = subst Fits (sym (found_leaves (system st) (st.records n) n t)) (w.fits n)

  pub wide_next : (c : Call) → Typed c → Wide (Rattle.steps.specs.Step.step st c).station
  unfolding Rattle.steps.specs.Step.step drop_of switch_of
  wide_next (begin n a) t = hosted_wide n _ (begin_fits (system st) q (st.records n) n (v.records n) (w.fits n) a t.1.0 t.0 t.1.1)
  wide_next (open_read n t) u = hosted_wide n _ (open_fits (system st) q (st.records n) n (v.records n) (w.fits n) t 0 (omega arith))
  wide_next (open_write n t) u = hosted_wide n _ (open_fits (system st) q (st.records n) n (v.records n) (w.fits n) t 1 (omega arith))
  wide_next (set_value n t x) u = hosted_wide n _ (set_fits (system st) q (st.records n) n (v.records n) (w.fits n) t x u)
  wide_next (found n t) u = hosted_wide n _ (found_wide n t)
  wide_next (reselect n live d) u = hosted_wide n _ (reselect_fits (system st) q (st.records n) n (v.records n) (w.fits n) live d u.0 u.1)
  wide_next (request_commit n) u = hosted_wide n _ (request_fits (system st) q (st.records n) n (v.records n) (w.fits n))
  wide_next (abort n) u = hosted_wide n _ (abort_fits (system st) q (st.records n) n (v.records n) (w.fits n))
  wide_next (send n to t) u = send_wide n to t
  wide_next (delivery k kept) u = delivery_wide k kept
  wide_next (drop k) u = either_way (λ (r : Outcome). Wide r.station) (ltb k (length st.pool)) _ _ (pool_wide _ st.own) w
  wide_next (switch n up) u = either_way (λ (r : Outcome). Wide r.station) (no_node n) _ _ w (pool_wide st.pool _)
