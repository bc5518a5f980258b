-- A mask that marks the numbers below n that pass a test, and how it grows with n. By comparing each number with n.
use mathlib.Core.Path.{◌≡◌, refl, sym, ap, ◌∙◌}
use mathlib.Core.Bool.{Bool, true, false, cond, ◌&&◌, ◌||◌}
use Prim.Native.Nat.{ℕ, ◌+◌, ◌^◌, ◌<◌, ◌%◌}
use native.Mathlib.Nat.{zero-div}
use native.Mathlib.Omega.{arith}
use lib.Dec.{eqb, ltb}
use borrow.Author.Tests.{lt-ltb, le-ltb, eq-eqb, ne_eqb}
use Rattle.mask.specs.Mask.{contains, only, joined}
use Rattle.mask.proofs.Laws.{contains_joined, contains_power, only_small}
use Rattle.mask.proofs.Tests.{compared}

abbrev pub Marks : ℕ → ℕ → (ℕ → Bool) → Type 0
Marks m n p = (k : ℕ) → contains m k ≡ (ltb k n && p k)

pub contains_none : (k : ℕ) → contains 0 k ≡ false
contains_none k = ap (λ (x : ℕ). eqb (x % 2) 1) (zero-div (2 ^ k))

-- {n} has n and no other
pub contains_only : (n k : ℕ) → n < 16 → contains (only n) k ≡ eqb n k
contains_only n k h = ap (λ (m : ℕ). contains m k) (only_small n h) ∙ contains_power n k

module _ (p : ℕ → Bool) where
  pub marks_none : Marks 0 0 p
  marks_none k = contains_none k ∙ sym (ap (λ (b : Bool). b && p k) (le-ltb k 0 (omega arith)))

  -- n passes: it joins
  marks_more : (m n : ℕ) → n < 16 → p n ≡ true → Marks m n p → Marks (joined m (only n)) (n + 1) p
  marks_more m n h t f k =
      contains_joined m (only n) k ∙ ap (λ (b : Bool). b || contains (only n) k) (f k) ∙ ap (λ (b : Bool). (ltb k n && p k) || b) (contains_only n k h)
      ∙ compared (((ltb k n && p k) || eqb n k) ≡ (ltb k (n + 1) && p k)) k n
      (λ a. simp (lt-ltb k n a, lt-ltb k (n + 1) (omega arith), ne_eqb n k (λ e. omega arith)) (or_none (p k)))
      (λ a. simp (a, t, eq-eqb n n refl, lt-ltb n (n + 1) (omega arith)) (any (ltb n n)))
      (λ a. simp (le-ltb k n (omega arith), le-ltb k (n + 1) (omega arith), ne_eqb n k (λ e. omega arith)))
    where
      or_none : (b : Bool) → (b || false) ≡ b
      or_none true = refl
      or_none false = refl

      any : (b : Bool) → ((b && true) || true) ≡ true
      any true = refl
      any false = refl

  -- n does not pass: the mask stays
  marks_same : (m n : ℕ) → p n ≡ false → Marks m n p → Marks m (n + 1) p
  marks_same m n t f k =
      f k
      ∙ compared ((ltb k n && p k) ≡ (ltb k (n + 1) && p k)) k n
      (λ a. simp (lt-ltb k n a, lt-ltb k (n + 1) (omega arith)))
      (λ a. simp (a, t) (none (ltb n n) (ltb n (n + 1))))
      (λ a. simp (le-ltb k n (omega arith), le-ltb k (n + 1) (omega arith)))
    where
      none : (a b : Bool) → (a && false) ≡ (b && false)
      none true true = refl
      none true false = refl
      none false true = refl
      none false false = refl

  -- whichever it does
  pub marks_next : (m n : ℕ) → n < 16 → Marks m n p → Marks (cond (p n) (joined m (only n)) m) (n + 1) p
  marks_next m n h f = by (p n) refl
    where
      by : (b : Bool) → p n ≡ b → Marks (cond b (joined m (only n)) m) (n + 1) p
      by true e = marks_more m n h e f
      by false e = marks_same m n e f
