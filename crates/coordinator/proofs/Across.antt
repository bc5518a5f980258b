-- Past the last place nothing is left for `across` to take together.
use mathlib.Core.Path.{◌≡◌}
use mathlib.Core.List.{List}
use Prim.Native.Nat.{ℕ, ◌≤◌}
use lib.ListN.{length, drop, drop_of_length-le}
use Rattle.coordinator.specs.declared.Object.{Object}
use Rattle.coordinator.specs.State.{across}

module _ {A : Type 0} (f : ℕ → Object → A → A) (z : A) (l : List Object) where
  pub across_start : (n : ℕ) → length l ≤ n → across f z n (drop n l) ≡ z
  across_start n h = rw (drop_of_length-le l h)
