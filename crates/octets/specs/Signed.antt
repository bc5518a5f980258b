-- A value is a signed 64-bit number; inside, its 64 bits are carried as an unsigned one, in two's complement.
use Rattle.std.specs.Prelude.{ℕ, ℤ}
use Rattle.std.specs.Int.{w64}
use Rattle.std.proofs.Common.{to_z, of_z}

-- the signed number that 64 bits are: n below 2 ^ 63, else n less 2 ^ 64
abbrev pub signed_of : ℕ → ℤ
signed_of n = to_z w64 n

-- the 64 bits of a signed number
abbrev pub bits_of : ℤ → ℕ
bits_of z = of_z w64 z
