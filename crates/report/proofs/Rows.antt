-- Each row of the table is its word: one test of every number and every kind, computed, and the law that it is the rule at each.
use Prim.Native.Nat.{ℕ, zero, suc, ◌+◌, ◌≤◌, ◌<◌}
use native.Mathlib.Omega.{arith}
use mathlib.Core.Path.{◌≡◌, refl, sym, ap₂, subst}
use mathlib.Core.Bool.{Bool, true, false, ◌&&◌}
use mathlib.Core.List.{List, [], ◌∷◌}
use borrow.Author.Tests.{eqb-true, leb-true, ltb-true}
use lib.Dec.{T, eqb, ltb, leb}
use lib.ListN.{get_or}
use Rattle.report.specs.Texts.{kind_word, word_of_number}
use Rattle.report.specs.Table.{words, places, row_at, cap, kinds, kind_row}

left : (a b : Bool) → (a && b) ≡ true → a ≡ true
left true b e = refl
left false b e = e

right : (a b : Bool) → (a && b) ≡ true → b ≡ true
right true b e = e
right false b e = absurd (subst T (sym e) tt)

-- ---- a test of every number below n
unfoldable all_below : ℕ → (ℕ → Bool) → Bool
all_below zero p = true
all_below (suc n) p = p 0 && all_below n (λ k. p (suc k))

below : (n : ℕ) (p : ℕ → Bool) → all_below n p ≡ true → (k : ℕ) → k < n → p k ≡ true
unfolding all_below
below zero p e k h = absurd (let z : ⊥ = omega arith in z)
below (suc n) p e zero h = left (p 0) _ e
below (suc n) p e (suc k) h = below n (λ j. p (suc j)) (right (p 0) _ e) k (omega arith)

-- ---- a test of two texts
unfoldable same : List ℕ → List ℕ → Bool
same [] [] = true
same [] (y ∷ ys) = false
same (x ∷ xs) [] = false
same (x ∷ xs) (y ∷ ys) = eqb x y && same xs ys

same_eq : (a b : List ℕ) → same a b ≡ true → a ≡ b
unfolding same
same_eq [] [] e = refl
same_eq [] (y ∷ ys) e = absurd (subst T (sym e) tt)
same_eq (x ∷ xs) [] e = absurd (subst T (sym e) tt)
same_eq (x ∷ xs) (y ∷ ys) e = ap₂ ◌∷◌ (eqb-true x y (left (eqb x y) _ e)) (same_eq xs ys (right (eqb x y) _ e))

-- ---- a row lies within the bytes, and the kinds name rows
pub row_fits : (k : ℕ) → k < 24 → (get_or places k 0 ≤ get_or places (k + 1) 0) × (get_or places (k + 1) 0 ≤ 167)
unfolding all_below
row_fits k h =
    let e = below 24 (λ (j : ℕ). leb (get_or places j 0) (get_or places (j + 1) 0) && leb (get_or places (j + 1) 0) 167) refl k h in
    (leb-true _ _ (left (leb (get_or places k 0) (get_or places (k + 1) 0)) _ e), leb-true _ _ (right (leb (get_or places k 0) (get_or places (k + 1) 0)) _ e))

pub kind_fits : (i : ℕ) → i < 14 → get_or kinds i 0 < 24
unfolding all_below
kind_fits i h = ltb-true _ _ (below 14 (λ (j : ℕ). ltb (get_or kinds j 0) 24) refl i h)

-- ---- the rows of all numbers, and of all kinds
pub number_row : (n : ℕ) → n < 256 → row_at (cap 15 n) ≡ word_of_number n
unfolding all_below same row_at words word_of_number
number_row n h = same_eq _ _ (below 256 (λ (k : ℕ). same (row_at (cap 15 k)) (word_of_number k)) refl n h)

kind_as : (kind : ℕ) → kind < 256 → (row_at (kind_row kind 0) ≡ kind_word kind 0) × (row_at (kind_row kind 1) ≡ kind_word kind 1)
unfolding all_below same row_at words kind_word
kind_as kind h =
    let e =
    below 256 (λ (k : ℕ). same (row_at (kind_row k 0)) (kind_word k 0) && same (row_at (kind_row k 1)) (kind_word k 1)) refl kind h in
    let t : Bool = same (row_at (kind_row kind 0)) (kind_word kind 0) in (same_eq _ _ (left t _ e), same_eq _ _ (right t _ e))

pub kind_row_lem : (kind word : ℕ) → kind < 256 → row_at (kind_row kind word) ≡ kind_word kind word
unfolding kind_word
kind_row_lem kind word h = by (eqb word 1) refl
  where
    by : (b : Bool) → eqb word 1 ≡ b → row_at (kind_row kind word) ≡ kind_word kind word
    by true e = subst (λ (w : ℕ). row_at (kind_row kind w) ≡ kind_word kind w) (sym (eqb-true word 1 e)) (kind_as kind h).1
    by false e = simp e (kind_as kind h).0
