-- A test of every item, or of some item, asked of each place where an item stands.
use mathlib.Core.Path.{◌≡◌, refl, ap, ap₂, ◌∙◌}
use mathlib.Core.Bool.{Bool, ◌&&◌, ◌||◌}
use mathlib.Core.List.{List}
use Prim.Native.Nat.{ℕ, zero, suc, ◌+◌, ◌*◌}
use native.Mathlib.Omega.{arith}
use Rattle.std.specs.List.{list_all, list_any, range_with_len}
use Rattle.wire.specs.Formed.{every}
use Rattle.wire.specs.Decode.{items_from}
use Rattle.hours.specs.Hours.{any_of}

module _ {A : Type 0} (at : List ℕ → ℕ → A) (size : ℕ) (l : List ℕ) (f : A → Bool) (i : ℕ) where
  next : (j : ℕ) → i + size * (j + 1) ≡ i + size * j + size
  next j = omega arith

  first : i + size * 0 ≡ i
  first = omega arith

  all_from : (n j : ℕ) → list_all (λ k. f (at l (i + size * k))) (range_with_len j n) ≡ every f (items_from at size n l (i + size * j))
  unfolding items_from
  all_from zero j = refl
  all_from (suc n) j =
      ap (λ (b : Bool). f (at l (i + size * j)) && b) (all_from n (j + 1) ∙ ap (λ (p : ℕ). every f (items_from at size n l p)) (next j))

  any_from : (n j : ℕ) → list_any (λ k. f (at l (i + size * k))) (range_with_len j n) ≡ any_of f (items_from at size n l (i + size * j))
  unfolding items_from any_of
  any_from zero j = refl
  any_from (suc n) j =
      ap (λ (b : Bool). f (at l (i + size * j)) || b) (any_from n (j + 1) ∙ ap (λ (p : ℕ). any_of f (items_from at size n l p)) (next j))

  pub all_items : (n m : ℕ) → n ≡ m → list_all (λ k. f (at l (i + size * k))) (range_with_len 0 n) ≡ every f (items_from at size m l i)
  all_items n m e = all_from n 0 ∙ ap₂ (λ (c p : ℕ). every f (items_from at size c l p)) e first

  pub any_items : (n m : ℕ) → n ≡ m → list_any (λ k. f (at l (i + size * k))) (range_with_len 0 n) ≡ any_of f (items_from at size m l i)
  any_items n m e = any_from n 0 ∙ ap₂ (λ (c p : ℕ). any_of f (items_from at size c l p)) e first
