-- Sums of two values; a value is the 64 bits of a signed number.
use Rattle.std.specs.Prelude.{◌≡◌, ℕ, ◌+◌, ◌%◌, ◌^◌, Bool, true, false, ℤ, ◌+ℤ◌}
use Rattle.std.proofs.Math.IntN.{ℤ_discrete}
use Rattle.octets.specs.Signed.{signed_of}

-- the 64 bits of the sum
unfoldable pub sum64 : ℕ → ℕ → ℕ
sum64 a g = (a + g) % 2 ^ 64

-- "past the 64-bit range": those bits are not the sum
abbrev pub differs : {m n : ℤ} → Dec (m ≡ n) → Bool
differs (yes p) = false
differs (no p) = true

unfoldable pub past : ℕ → ℕ → Bool
past a g = differs (ℤ_discrete (signed_of (sum64 a g)) (signed_of a +ℤ signed_of g))
