-- A refusal has a number above 0, so a call whose number is 0 is taken.
use mathlib.Core.Path.{◌≡◌}
use Prim.Native.Nat.{ℕ, ◌<◌}
use native.Mathlib.Omega.{arith}
use Rattle.numbers.specs.declared.refusals.Refusal.{Refusal}
use Rattle.numbers.specs.declared.refusals.Refusal.TheVariants.{Length, Damaged, Garbled, Stranger, OutOfTurn, NoSuchObject, EightOpen, NoQuorum}
use Rattle.numbers.specs.declared.refusals.Refusal.TheVariants.{UsedUp, Busy, NotReady, PoolFull, Closed, Bounds, TallyTwice}
use Rattle.numbers.specs.Outcome.{code_of}

pub code_above : (r : Refusal) → 0 < code_of r
code_above Length = omega arith
code_above Damaged = omega arith
code_above Garbled = omega arith
code_above Stranger = omega arith
code_above OutOfTurn = omega arith
code_above NoSuchObject = omega arith
code_above EightOpen = omega arith
code_above NoQuorum = omega arith
code_above UsedUp = omega arith
code_above Busy = omega arith
code_above NotReady = omega arith
code_above PoolFull = omega arith
code_above Closed = omega arith
code_above Bounds = omega arith
code_above TallyTwice = omega arith

pub code_counts : (r : Refusal) → code_of r ≡ 0 → ⊥
code_counts r e = let h = code_above r in omega arith
