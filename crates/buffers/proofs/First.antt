-- The numbers of the buffers come first: what they tell, and the order of those that a host call and a send read.
use mathlib.Core.Path.{◌≡◌, refl, ap, ◌∙◌}
use mathlib.Core.Bool.{Bool, true, false, cond, ◌||◌}
use mathlib.Core.List.{List}
use Prim.Native.Nat.{ℕ}
use native.Mathlib.Omega.{arith}
use lib.Dec.{eqb}
use lib.ListN.{length}
use borrow.Author.Tests.{ne_eqb, eqb-true, not-false}
use Rattle.replica.proofs.Delivered.{or_neither}
use Rattle.steps.specs.Step.{Outcome}
use Rattle.buffers.specs.Buffers.{record_damaged, own_damaged, wrong, answer_with, told, ends, host_first, ends_first, records_size, own_size}

-- ---- what the buffers' number tells
pub told_first : (n m : ℕ) (o : Outcome) → n ≡ m → (n ≡ 0 → ⊥) → answer_with n 0 ≡ told m o
unfolding told
told_first n m o e h = simp (ne_eqb m 0 (λ z. h (e ∙ z))) (ap (λ (k : ℕ). answer_with k 0) e)

-- a length that is not another
pub long : (l : List ℕ) (n : ℕ) → wrong l n ≡ false → length l ≡ n
long l n e = eqb-true (length l) n (not-false (eqb (length l) n) e)

-- ---- the records' length and who is on come before the record's clauses
module _ (R O : List ℕ) (n : ℕ) where
  by_tests : (a m r : Bool)
      → (let f : ℕ = cond a 1 (cond m 2 0) in
      let g : ℕ = cond a 1 (cond m 2 (cond r 2 0)) in
      ((f ≡ 0 → ⊥) → f ≡ g) × (f ≡ 0 → (a ≡ false) × (g ≡ cond r 2 0)))
  by_tests true m r = ((λ h. refl), (λ e. absurd (let z : ⊥ = omega arith in z)))
  by_tests false true r = ((λ h. refl), (λ e. absurd (let z : ⊥ = omega arith in z)))
  by_tests false false r = ((λ h. absurd (h refl)), (λ e. (refl, refl)))

  pub ends_stop : (k : ℕ) → k ≡ ends_first (length R) O → (k ≡ 0 → ⊥) → k ≡ host_first (ends R O) n
  unfolding host_first ends_first
  ends_stop k e h = e ∙ (by_tests (wrong R records_size || wrong O own_size) (own_damaged O) (record_damaged R n)).0 (λ z. h (e ∙ z))

  pub ends_next : ends_first (length R) O ≡ 0 → host_first (ends R O) n ≡ cond (record_damaged R n) 2 0
  unfolding host_first ends_first
  ends_next e = ((by_tests (wrong R records_size || wrong O own_size) (own_damaged O) (record_damaged R n)).1 e).1

  pub ends_long : ends_first (length R) O ≡ 0 → length R ≡ records_size
  unfolding ends_first
  ends_long e =
      let a = ((by_tests (wrong R records_size || wrong O own_size) (own_damaged O) (record_damaged R n)).1 e).0 in
      long R records_size (or_neither (wrong R records_size) (wrong O own_size) a).0
