-- A delivery that is accepted, without the checks that found nothing wrong and with each change of all copies in one walk: reading or walking all
-- 2,935 bytes of an image again and again is most of what a run costs.
use mathlib.Core.Path.{◌≡◌, refl, ap, ◌∙◌}
use mathlib.Core.Bool.{Bool, true, false, cond}
use mathlib.Core.List.{List, []}
use Prim.Native.Nat.{ℕ}
use native.Mathlib.Omega.{arith}
use lib.Dec.{eqb, ltb}
use lib.ListN.{length, get_or}
use borrow.Author.Tests.{eqb-true, eqb-false}
use Rattle.numbers.specs.Sizes.{longest_message}
use Rattle.mask.specs.Mask.{contains}
use Rattle.wire.specs.Decode.{kind_of, to_of, decode, check_of}
use Rattle.replica.specs.Steps.{silent}
use Rattle.replica.specs.Receive.{Delivered, refusal, deliver}
use Rattle.replica.specs.Receive.{step as replicaStep}
use Rattle.arrivals.specs.Receive.{for_replica}
use Rattle.steps.specs.Station.{Station}
use Rattle.steps.specs.Step.{delivery, Outcome, refused_with, taken, taken_out, answered, at_replica, at_coordinator, arriving, delivery_of, step}
use Rattle.worked.proofs.Quick.{quick_step, step_quick}

-- where it is accepted
unfoldable pub accepted : Station → ℕ → List ℕ → Outcome
accepted st k b =
    let n = to_of b in
    let d = quick_step (st.images n) n (decode b) in
    cond (contains st.own.on n) (cond (for_replica (kind_of b)) (answered st k false n d.image d.answer) (at_coordinator st k false n b))
    (taken 0 (taken_out st k false))

-- at the replica
deliver_taken : (l : List ℕ) (n : ℕ) (b : List ℕ) → (deliver longest_message l n b).number ≡ 0 → deliver longest_message l n b ≡ replicaStep l n (decode b)
unfolding deliver
deliver_taken l n b = go (eqb r 0) refl
  where
    r : ℕ
    r = refusal longest_message l n b

    which : Bool → Delivered
    which t = cond t (replicaStep l n (decode b)) (record { number = r; image = l; answer = silent })

    go : (t : Bool) → eqb r 0 ≡ t → (which t).number ≡ 0 → which t ≡ replicaStep l n (decode b)
    go true e z = refl
    go false e z = absurd (eqb-false r 0 e z)

module _ (st : Station) (k : ℕ) (b : List ℕ) where
  abbrev n : ℕ
  n = to_of b

  abbrev d : Delivered
  d = deliver longest_message (st.images n) n b

  at_replica_lem : (at_replica st k false n b).number ≡ 0
      → at_replica st k false n b
      ≡ answered st k false n (replicaStep (st.images n) n (decode b)).image (replicaStep (st.images n) n (decode b)).answer
  unfolding at_replica
  at_replica_lem = go (eqb d.number 0) refl
    where
      as_said : Delivered → Outcome
      as_said x = answered st k false n x.image x.answer

      which : Bool → Outcome
      which t = cond t (as_said d) (refused_with d.number st)

      go : (t : Bool) → eqb d.number 0 ≡ t → (which t).number ≡ 0 → which t ≡ as_said (replicaStep (st.images n) n (decode b))
      go true e z = ap as_said (deliver_taken (st.images n) n b (eqb-true d.number 0 e))
      go false e z = absurd (eqb-false d.number 0 e z)

  at_node : (arriving st k false b).number ≡ 0 → arriving st k false b ≡ accepted st k b
  unfolding arriving accepted
  at_node = go (contains st.own.on n) (for_replica (kind_of b))
    where
      o : Delivered → Outcome
      o x = answered st k false n x.image x.answer

      go : (t u : Bool) → (cond t (cond u (at_replica st k false n b) (at_coordinator st k false n b)) (taken 0 (taken_out st k false))).number ≡ 0
          → cond t (cond u (at_replica st k false n b) (at_coordinator st k false n b)) (taken 0 (taken_out st k false))
          ≡ cond t (cond u (o (quick_step (st.images n) n (decode b))) (at_coordinator st k false n b)) (taken 0 (taken_out st k false))
      go true true z = at_replica_lem z ∙ ap o (step_quick (st.images n) n (decode b))
      go true false z = refl
      go false u z = refl

  checked : (cond (eqb (check_of b) 0) (arriving st k false b) (refused_with (check_of b) st)).number ≡ 0
      → cond (eqb (check_of b) 0) (arriving st k false b) (refused_with (check_of b) st) ≡ accepted st k b
  checked = go (eqb (check_of b) 0) refl
    where
      which : Bool → Outcome
      which t = cond t (arriving st k false b) (refused_with (check_of b) st)

      go : (t : Bool) → eqb (check_of b) 0 ≡ t → (which t).number ≡ 0 → which t ≡ accepted st k b
      go true e z = at_node z
      go false e z = absurd (eqb-false (check_of b) 0 e z)

-- a delivery is as where it is accepted, or it is not
pub is_accepted : (st : Station) (k : ℕ) → (step st (delivery k false)).number ≡ 0 → step st (delivery k false) ≡ accepted st k (get_or st.pool k [])
unfolding step delivery_of
is_accepted st k = go (ltb k (length st.pool))
  where
    b : List ℕ
    b = get_or st.pool k []

    x : Outcome
    x = cond (eqb (check_of b) 0) (arriving st k false b) (refused_with (check_of b) st)

    go : (t : Bool) → (cond t x (refused_with 5 st)).number ≡ 0 → cond t x (refused_with 5 st) ≡ accepted st k b
    go true z = checked st k b z
    go false z = absurd (let y : 5 ≡ 0 = z in omega (arith, y))
