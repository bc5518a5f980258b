-- A loop over the rivals of a message computes `raise_from`: one turn of it, and its end.
use mathlib.Core.Path.{◌≡◌, refl, ap}
use mathlib.Core.List.{List}
use Prim.Native.Nat.{ℕ, zero, suc, ◌+◌, ◌-◌, ◌<◌, ◌≤◌}
use native.Mathlib.Omega.{arith}
use Rattle.wire.specs.Items.{rival_of}
use Rattle.arrivals.specs.Receive.{raise, raise_from}

module _ (m : List ℕ) where
  pub raise_turn : (n i : ℕ) (a : List ℕ) → 0 < n → raise_from m n i a ≡ raise_from m (n - 1) (i + 1) (raise a (rival_of m i))
  unfolding raise_from
  raise_turn zero i a h = absurd (let z : ⊥ = omega arith in z)
  raise_turn (suc n) i a h =
      let e : n ≡ suc n - 1 = omega arith in
      ap (λ (k : ℕ). raise_from m k (i + 1) (raise a (rival_of m i))) e

  pub raise_end : (n i : ℕ) (a : List ℕ) → n ≤ 0 → raise_from m n i a ≡ a
  unfolding raise_from
  raise_end zero i a h = refl
  raise_end (suc n) i a h = absurd (let z : ⊥ = omega arith in z)
