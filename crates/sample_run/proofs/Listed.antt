-- The values of a function below a number as a list.
use mathlib.Core.Path.{◌≡◌, ap}
use mathlib.Core.List.{List, [], ◌∷◌}
use Prim.Native.Nat.{ℕ, zero, suc, ◌<◌}
use native.Mathlib.Nat.{le_of_suc-le-suc, not-suc-le-zero}
use lib.ListN.{get_or, drop}

-- f 0, f 1, .. f (n - 1)
abbrev pub listed : {A : Type 0} → (ℕ → A) → ℕ → List A
listed f zero = []
listed f (suc n) = f 0 ∷ listed (λ i. f (suc i)) n

-- functions with the same list agree there
pub listed_same : {A : Type 0} (f g : ℕ → A) (n : ℕ) → listed f n ≡ listed g n → (i : ℕ) → i < n → f i ≡ g i
listed_same f g zero e i h = absurd (not-suc-le-zero h)
listed_same f g (suc n) e zero h = ap (λ l. get_or l 0 (f 0)) e
listed_same f g (suc n) e (suc i) h = listed_same (λ k. f (suc k)) (λ k. g (suc k)) n (ap (drop 1) e) i (le_of_suc-le-suc h)
