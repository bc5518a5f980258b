-- A delivery on bytes: a message of another length is refused before the bytes are looked at, else it is as any call.
use mathlib.Core.Path.{◌≡◌, refl, sym}
use mathlib.Core.Bool.{Bool, true, false, cond, not, ◌||◌}
use mathlib.Core.List.{List}
use Prim.Native.Nat.{ℕ}
use native.Mathlib.Omega.{arith}
use lib.Dec.{eqb}
use Rattle.numbers.specs.Refusal.{first_of}
use Rattle.wire.specs.Decode.{check_of, to_of, kind_of}
use Rattle.coordinator.specs.declared.Coordinator.{Coordinator}
use Rattle.coordinator.specs.System.{tree}
use Rattle.coordinator.specs.Calls.{no_node}
use Rattle.arrivals.specs.Receive.{for_replica, receive_refusals, receive_of}
use Rattle.record.specs.Record.{check}
use Rattle.record.specs.Call.{called, called_of, kept, record_after}
use Rattle.record.proofs.OnBytes.{all_of, checked_length}
use Rattle.record_arrive.specs.Call.{received_of}

module _ (me : ℕ) (m l : List ℕ) where
  pub short_answer : eqb (check_of m) 1 ≡ true → called 1 0 ≡ received_of me m l
  unfolding received_of
  short_answer t = simp t

  -- a message of another length is refused by the call itself, so the bytes are left
  pub short_bytes : eqb (check_of m) 1 ≡ true → l ≡ record_after (λ (c : Coordinator). receive_of tree c me m) l
  unfolding record_after kept receive_of receive_refusals
  short_bytes t = simp t (sym (same (eqb (check l) 0) l))
    where
      same : (b : Bool) (l : List ℕ) → cond b l l ≡ l
      same true l = refl
      same false l = refl

  pub long_answer : eqb (check_of m) 1 ≡ false → called_of (λ (c : Coordinator). receive_of tree c me m) l ≡ received_of me m l
  unfolding received_of
  long_answer t = simp t

-- a delivery's number is 1 exactly where the message's length is wrong
one_first : (a b d e : Bool) (n : ℕ) → n ≡ cond a 1 (cond b 3 (cond d 4 (cond e 5 0))) → (n ≡ 1 → a ≡ true) × ((n ≡ 1 → ⊥) → a ≡ false)
one_first true b d e n q = ((λ z. refl), (λ h. absurd (h q)))
one_first false true d e n q = ((λ z. absurd (let y : ⊥ = omega arith in y)), (λ h. refl))
one_first false false true e n q = ((λ z. absurd (let y : ⊥ = omega arith in y)), (λ h. refl))
one_first false false false true n q = ((λ z. absurd (let y : ⊥ = omega arith in y)), (λ h. refl))
one_first false false false false n q = ((λ z. absurd (let y : ⊥ = omega arith in y)), (λ h. refl))

pub number_length : (c : Coordinator) (me : ℕ) (m : List ℕ) (n : ℕ) → n ≡ first_of (receive_refusals c me m)
    → (n ≡ 1 → eqb (check_of m) 1 ≡ true) × ((n ≡ 1 → ⊥) → eqb (check_of m) 1 ≡ false)
unfolding receive_refusals
number_length c me m n e =
    one_first (eqb (check_of m) 1) (eqb (check_of m) 3) (no_node me || not (eqb (to_of m) me)) (for_replica (kind_of m)) n e

-- a checked record is handed on as a part that is all of it
pub ruleset all = (all_of, checked_length)
