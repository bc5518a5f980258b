-- Bytes stored one after the other: a run of stores may be split, so what is long is stored piece by piece.
use mathlib.Core.Path.{◌≡◌, sym, ap, ap₂, ◌∙◌}
use mathlib.Core.List.{List, [], ◌∷◌, ◌++◌}
use Prim.Native.Nat.{ℕ, suc, ◌+◌, ◌*◌, ◌≤◌, ◌<◌}
use native.Mathlib.Omega.{arith}
use native.Mathlib.Numerals.{add-one}
use lib.ListN.{length, get_or, set, drop, drop_of_length-le}
use lib.Seq.{sets, drop-cons}
use Rattle.octets.specs.Octets.{put, le}
use Rattle.octets.proofs.Laws.{put_le, length_le}
use Rattle.wire.specs.Encode.{together, All}

pub sets_append : (a b l : List ℕ) (i : ℕ) → sets l i (a ++ b) ≡ sets (sets l i a) (i + length a) b
sets_append [] b l i = let z : i ≡ i + 0 = omega arith in ap (λ (j : ℕ). sets l j b) z
sets_append (x ∷ a) b l i =
    let z : suc i + length a ≡ i + suc (length a) = omega arith in
    sets_append a b (set l i x) (suc i) ∙ ap (λ (j : ℕ). sets (sets (set l i x) (suc i) a) j b) z

-- a piece of a known length, then the rest
pub sets_then : (a b l : List ℕ) (i n : ℕ) → length a ≡ n → sets l i (a ++ b) ≡ sets (sets l i a) (i + n) b
sets_then a b l i n e = sets_append a b l i ∙ ap (λ (k : ℕ). sets (sets l i a) (i + k) b) e

-- a number, then the rest
pub put_then : (k v : ℕ) (b l : List ℕ) (i : ℕ) → sets l i (le k v ++ b) ≡ sets (put k l i v) (i + k) b
put_then k v b l i = sets_then (le k v) b l i k (length_le k v) ∙ ap (λ (m : List ℕ). sets m (i + k) b) (sym (put_le k l i v))

-- ---- items one after the other: what a loop that stores them keeps
module _ {A : Type 0} (enc : A → List ℕ) (size : ℕ) (len : (x : A) → length (enc x) ≡ size) where
  -- one item stored, the rest to come
  pub together_step : (x : A) (xs : List A) (s : List ℕ) (i : ℕ) → sets s i (together enc (x ∷ xs)) ≡ sets (sets s i (enc x)) (i + size) (together enc xs)
  unfolding together
  together_step x xs s i = sets_then (enc x) (together enc xs) s i size (len x)

  pub together_again : (es : List A) (d : A) (s whole : List ℕ) (at i : ℕ) → i < length es → sets s (at + size * i) (together enc (drop i es)) ≡ whole
      → sets (sets s (at + size * i) (enc (get_or es i d))) (at + size * (i + 1)) (together enc (drop (i + 1) es)) ≡ whole
  together_again es d s whole at i h w =
      let z : at + size * i + size ≡ at + size * (i + 1) = omega arith in
      ap₂ (λ (j : ℕ) (k : ℕ). sets (sets s (at + size * i) (enc (get_or es i d))) j (together enc (drop k es))) (sym z) (add-one i)
      ∙ sym (together_step (get_or es i d) (drop (suc i) es) s (at + size * i))
      ∙ ap (λ (xs : List A). sets s (at + size * i) (together enc xs)) (sym (drop-cons es i d h)) ∙ w

  pub together_end : (es : List A) (s whole : List ℕ) (at i : ℕ) → length es ≤ i → sets s (at + size * i) (together enc (drop i es)) ≡ whole → s ≡ whole
  unfolding together
  together_end es s whole at i h w = sym (ap (λ (xs : List A). sets s (at + size * i) (together enc xs)) (drop_of_length-le es h)) ∙ w

-- ---- a fact about every item
module _ {A : Type 0} (P : A → Type 0) where
  pub all_append : (a b : List A) → All P a → All P b → All P (a ++ b)
  all_append [] b f g = g
  all_append (x ∷ a) b f g = (f.0, all_append a b f.1 g)
