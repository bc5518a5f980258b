-- Buffers that are thirteen parts of one width: each part made the same, and one part changed.
use mathlib.Core.Path.{◌≡◌, ap, ◌∙◌}
use mathlib.Core.Logic.{◌⊎◌, inl, inr, ⊎_elim}
use mathlib.Core.List.{List}
use Prim.Native.Nat.{ℕ, zero, suc, ◌+◌, ◌*◌, ◌<◌, ◌≤◌}
use native.Mathlib.Omega.{arith}
use native.Mathlib.Nat.{mul-suc, mul-le-mul_left}
use lib.ListN.{length}
use Rattle.image.proofs.Each.{same_or_not, lt_or_le}
use Rattle.parts.specs.Parts.{part, splice}
use Rattle.parts.proofs.Laws.{length_splice, part_splice, part_other}
use Rattle.station_calls.specs.Calls.{each_part}

-- two parts are in order
ordered : (w i n : ℕ) → i < n → w * i + w ≤ w * n
ordered w i n h = let k : suc i ≤ n = omega arith in omega (arith, mul-suc w i, mul-le-mul_left {m = suc i} {n = n} w k)

apart : (w i n : ℕ) → (i ≡ n → ⊥) → (w * i + w ≤ w * n) ⊎ (w * n + w ≤ w * i)
apart w i n e = ⊎_elim (λ p. inl (ordered w i n p)) (λ p. inr (ordered w n i (strict p))) (lt_or_le i n)
  where
    strict : n ≤ i → n < i
    strict p = ⊎_elim (λ q. q) (λ q. absurd (e (let z : i ≡ n = omega arith in z))) (lt_or_le n i)

-- ---- one part changed
module _ (w k : ℕ) (l m : List ℕ) (e : length m ≡ w) (h : length l ≡ w * k) (n : ℕ) (small : n < k) where
  pub part_length : length (splice w (w * n) m l) ≡ w * k
  part_length = let a = ordered w n k small in length_splice w (w * n) m l e (omega arith) ∙ h

  pub part_same : part w (w * n) (splice w (w * n) m l) ≡ m
  part_same = let a = ordered w n k small in part_splice w (w * n) m l e (omega arith)

  pub part_kept : (i : ℕ) → i < k → (i ≡ n → ⊥) → part w (w * i) (splice w (w * n) m l) ≡ part w (w * i) l
  part_kept i p q =
      let a = ordered w n k small in
      let b = ordered w i k p in
      part_other w (w * n) m l e (omega arith) (w * i) (omega arith) (apart w i n q)

-- ---- each part the same
module _ (w k : ℕ) (m l : List ℕ) (e : length m ≡ w) (h : length l ≡ w * k) where
  pub each_length : (n : ℕ) → n ≤ k → length (each_part w m n l) ≡ w * k
  unfolding each_part
  each_length zero p = h
  each_length (suc n) p = part_length w k (each_part w m n l) m e (each_length n (omega arith)) n (omega arith)

  pub each_part_lem : (n : ℕ) → n ≤ k → (i : ℕ) → i < n → part w (w * i) (each_part w m n l) ≡ m
  unfolding each_part
  each_part_lem zero p i q = absurd (let z : ⊥ = omega arith in z)
  each_part_lem (suc n) p i q = go (same_or_not i n) (each_part_lem n (omega arith) i)
    where
      below : (i ≡ n → ⊥) → i < n
      below s = ⊎_elim (λ a. a) (λ a. absurd (s (let z : i ≡ n = omega arith in z))) (lt_or_le i n)

      go : (i ≡ n) ⊎ (i ≡ n → ⊥) → (i < n → part w (w * i) (each_part w m n l) ≡ m) → part w (w * i) (splice w (w * n) m (each_part w m n l)) ≡ m
      go (inl s) f = ap (λ (j : ℕ). part w (w * j) (splice w (w * n) m (each_part w m n l))) s
          ∙ part_same w k (each_part w m n l) m e (each_length n (omega arith)) n (omega arith)
      go (inr s) f = part_kept w k (each_part w m n l) m e (each_length n (omega arith)) n (omega arith) i (omega arith) s ∙ f (below s)
