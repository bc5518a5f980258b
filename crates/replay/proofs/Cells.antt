-- Cells of a sheet after a store, and after a row of zeros. By comparing two places.
use mathlib.Core.Path.{◌≡◌, refl, sym, ap, ◌∙◌}
use mathlib.Core.Logic.{◌≢◌, ◌⊎◌, inl, inr}
use mathlib.Core.Bool.{Bool, true, false}
use mathlib.Core.List.{List}
use Prim.Native.Nat.{ℕ, zero, suc, ◌+◌, ◌≤◌, ◌<◌}
use native.Mathlib.Omega.{arith}
use lib.Dec.{eqb, ltb}
use lib.ListN.{length, set, replicate, length-set, length-replicate, get_or-replicate, get_or-eq_default}
use lib.Seq.{set_out, get_or-set_same, get_or-set_other, ext_get_or}
use borrow.Author.Tests.{ltb-true, ltb-false, eqb-true}
use Rattle.replay.specs.Layout.{size, cell}
use Rattle.replay.specs.Sheet.{sheet_number, zeroed}

-- two numbers compared
pub below? : {P : Type 0} (m n : ℕ) → (m < n → P) → (n ≤ m → P) → P
below? {P} m n f g = by (ltb m n) refl
  where
    by : (b : Bool) → ltb m n ≡ b → P
    by true e = f (ltb-true m n e)
    by false e = g (ltb-false m n e)

pub same? : {P : Type 0} (m n : ℕ) → (m ≡ n → P) → (m ≢ n → P) → P
same? m n f g = below? m n (λ h. g (λ e. omega arith)) (λ h. below? n m (λ k. g (λ e. omega arith)) (λ k. f (omega arith)))

-- ---- a store
pub set_there : (l : List ℕ) (i v : ℕ) → i < length l → cell (set l i v) i ≡ v
set_there l i v h = get_or-set_same l i v 0 h

pub set_else : (l : List ℕ) (i v j : ℕ) → j ≢ i → cell (set l i v) j ≡ cell l j
set_else l i v j e = get_or-set_other l i j v 0 e

zero_there : (l : List ℕ) (i : ℕ) → cell (set l i 0) i ≡ 0
zero_there l i = below? i (length l) (set_there l i 0) (λ h. ap (λ (d : List ℕ). cell d i) (set_out l i 0 h) ∙ get_or-eq_default l 0 h)

-- ---- zeros
pub zeroed_length : (n : ℕ) (l : List ℕ) (i : ℕ) → length (zeroed n l i) ≡ length l
unfolding zeroed
zeroed_length zero l i = refl
zeroed_length (suc n) l i = zeroed_length n (set l i 0) (i + 1) ∙ length-set l i 0

pub zeroed_else : (n : ℕ) (l : List ℕ) (i j : ℕ) → (j < i) ⊎ (i + n ≤ j) → cell (zeroed n l i) j ≡ cell l j
unfolding zeroed
zeroed_else zero l i j h = refl
zeroed_else (suc n) l i j (inl h) = zeroed_else n (set l i 0) (i + 1) j (inl (omega arith)) ∙ set_else l i 0 j (λ e. omega arith)
zeroed_else (suc n) l i j (inr h) = zeroed_else n (set l i 0) (i + 1) j (inr (omega arith)) ∙ set_else l i 0 j (λ e. omega arith)

pub zeroed_there : (n : ℕ) (l : List ℕ) (i j : ℕ) → i ≤ j → j < i + n → cell (zeroed n l i) j ≡ 0
unfolding zeroed
zeroed_there zero l i j h k = absurd (let z : ⊥ = omega arith in z)
zeroed_there (suc n) l i j h k =
    same? j i (λ e. zeroed_else n (set l i 0) (i + 1) j (inl (omega arith)) ∙ ap (cell (set l i 0)) e ∙ zero_there l i)
    (λ e. zeroed_there n (set l i 0) (i + 1) j (omega (arith, h, e)) (omega arith))

-- a sheet zeroed from its first cell to its last
pub all_zeroed : (n : ℕ) (l : List ℕ) → length l ≡ n → zeroed n l 0 ≡ replicate n 0
all_zeroed n l e =
    let long : length (zeroed n l 0) ≡ n = zeroed_length n l 0 ∙ e in
    ext_get_or 0 (zeroed n l 0) (replicate n 0) (long ∙ sym (length-replicate n 0))
    (λ i h. zeroed_there n l 0 i (omega arith) (omega (arith, h, long)) ∙ sym (get_or-replicate n i 0 0 (omega (arith, h, long))))

pub sheet_long : (l : List ℕ) → sheet_number (length l) ≡ 0 → length l ≡ size
unfolding sheet_number
sheet_long l e = by (eqb (length l) size) refl e
  where
    by : (b : Bool) → eqb (length l) size ≡ b → sheet_number (length l) ≡ 0 → length l ≡ size
    by true p q = eqb-true (length l) size p
    by false p q = absurd (let z : ◌≡◌ {A = ℕ} 1 0 = simp p at q in let y : ⊥ = omega arith in y)
