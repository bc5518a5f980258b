-- A waiting message as the pool lends it.
use mathlib.Core.Path.{◌≡◌}
use mathlib.Core.List.{List}
use Prim.Native.Nat.{ℕ, ◌+◌, ◌-◌, ◌<◌, ◌≤◌}
use native.Mathlib.Omega.{arith}
use lib.ListN.{length, take, drop}
use Rattle.parts.specs.Parts.{part}
use Rattle.pool.specs.Pool.{message_place, count, length_at, message_at, check, pool_size}
use Rattle.pool.proofs.Numbers.{fine}
use Rattle.pool.proofs.Laws.{length_fits}

-- the part of the pool that starts at a message's place and is as long as the message
pub message_lent : (P : List ℕ) (k start n : ℕ) → start ≡ message_place k → n ≡ length_at P k → take (start + n - start) (drop start P) ≡ message_at P k
unfolding message_at part
message_lent P k start n e f = let g : start + n - start ≡ n = omega arith in rw (g, e, f)

pub record Inside (P : List ℕ) (start n : ℕ) : Type 0 where
  pub long : length P ≡ pool_size
  pub ends : start + n ≤ pool_size

pub inside : (P : List ℕ) (k start n : ℕ) → check P ≡ 0 → k < count P → start ≡ message_place k → n ≡ length_at P k → Inside P start n
inside P k start n e h a b =
    let f = fine P e in
    let r = f.room in
    let g = length_fits P k in
    record { long = f.long; ends = omega arith }
