-- What a definition takes of proofs/Tables.
use Rattle.std.specs.Prelude.{◌≡◌, ℕ}
use Rattle.std.proofs.Common.{arith}

-- Two constructors that are said to be equal: `clash (cc)`.
pub clash : ◌≡◌ {A = ℕ} 0 1 → ⊥
clash e = omega arith
