-- `each n p` says p of every number below n, and nothing else. By induction on n.
use mathlib.Core.Path.{◌≡◌, refl, sym, ap, ◌∙◌, subst}
use mathlib.Core.Bool.{Bool, true, false, not, ◌&&◌}
use mathlib.Core.Logic.{◌⊎◌, inl, inr, ⊎_elim}
use Prim.Native.Nat.{ℕ, zero, suc, ◌+◌, ◌<◌, ◌≤◌}
use native.Mathlib.Numerals.{add-one}
use native.Mathlib.Omega.{arith}
use lib.Dec.{T, ltb}
use borrow.Author.Tests.{ltb-true, ltb-false}
use Rattle.mask.proofs.Tests.{and_both, and_left, and_right}
use Rattle.image.specs.Valid.{each}

pub lt_or_le : (m n : ℕ) → (m < n) ⊎ (n ≤ m)
lt_or_le m n = by (ltb m n) refl
  where
    by : (b : Bool) → ltb m n ≡ b → (m < n) ⊎ (n ≤ m)
    by true e = inl (ltb-true m n e)
    by false e = inr (ltb-false m n e)

-- m is n, or the claim's other case
pub same_or_not : (m n : ℕ) → (m ≡ n) ⊎ (m ≡ n → ⊥)
same_or_not m n =
    ⊎_elim (λ (a : m < n). inr (λ e. omega arith))
    (λ a. ⊎_elim (λ (b : n < m). inr (λ e. omega arith)) (λ b. inl (omega arith)) (lt_or_le n m))
    (lt_or_le m n)

module _ (p : ℕ → Bool) where
  pub each_at : (n : ℕ) → T (each n p) → (i : ℕ) → i < n → T (p i)
  unfolding each
  each_at zero t i h = absurd (let z : ⊥ = omega arith in z)
  each_at (suc n) t i h =
      ⊎_elim (λ (a : i < n). each_at n (and_left (each n p) (p n) t) i a)
      (λ a. let e : n ≡ i = omega arith in subst (λ (k : ℕ). T (p k)) e (and_right (each n p) (p n) t))
      (lt_or_le i n)

  pub each_all : (n : ℕ) → ((i : ℕ) → i < n → T (p i)) → T (each n p)
  unfolding each
  each_all zero f = tt
  each_all (suc n) f = and_both (each n p) (p n) (each_all n (λ i h. f i (omega arith))) (f n (omega arith))

  -- one number more, as a loop counts
  pub each_more : (n : ℕ) → each (n + 1) p ≡ (each n p && p n)
  unfolding each
  each_more n = ap (λ (k : ℕ). each k p) (add-one n)

  -- one number fails
  pub each_fails : (n i : ℕ) → i < n → p i ≡ false → each n p ≡ false
  each_fails n i h e = by (each n p) refl
    where
      by : (b : Bool) → each n p ≡ b → b ≡ false
      by true q = absurd (subst T e (each_at n (subst T (sym q) tt) i h))
      by false q = refl

-- two tests at once
pub each_both : (p q : ℕ → Bool) (n : ℕ) → each n (λ i. p i && q i) ≡ (each n p && each n q)
unfolding each
each_both p q zero = refl
each_both p q (suc n) = ap (λ (b : Bool). b && (p n && q n)) (each_both p q n) ∙ by (each n p) (each n q) (p n) (q n)
  where
    by : (a b c d : Bool) → ((a && b) && (c && d)) ≡ ((a && c) && (b && d))
    by true true true d = refl
    by true true false d = refl
    by true false true d = refl
    by true false false d = refl
    by false b c d = refl

-- what `!` says of a test
pub unless : (b : Bool) → not b ≡ true → b ≡ false
unless true e = sym e
unless false e = refl
