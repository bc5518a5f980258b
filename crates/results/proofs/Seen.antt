-- The message that waits at a place of a pool, as the program finds it.
use mathlib.Core.Path.{◌≡◌, refl, ap}
use mathlib.Core.Bool.{Bool, true, false, cond, ◌&&◌}
use mathlib.Core.List.{List}
use mathlib.Core.Option.{Option, none, some}
use Prim.Native.Nat.{ℕ, ◌<◌}
use lib.Dec.{eqb, ltb}
use borrow.Author.Tests.{eqb-true, ltb-true}
use Rattle.replica.proofs.Spoken.{false_true}
use Rattle.pool.specs.Pool.{count, check, message_at}
use Rattle.results.specs.Told.{there, seen}

pub unseen : (l : List ℕ) (k : ℕ) → there l k ≡ false → seen l k ≡ none
unfolding seen
unseen l k e = ap (λ (b : Bool). cond b (some (message_at l k)) none) e

pub is_seen : (l : List ℕ) (k : ℕ) → there l k ≡ true → seen l k ≡ some (message_at l k)
unfolding seen
is_seen l k e = ap (λ (b : Bool). cond b (some (message_at l k)) none) e

pub record There (l : List ℕ) (k : ℕ) : Type 0 where
  pub fine : check l ≡ 0
  pub message : k < count l

pub there_is : (l : List ℕ) (k : ℕ) → there l k ≡ true → There l k
unfolding there
there_is l k e = go (eqb (check l) 0) (ltb k (count l)) refl refl e
  where
    go : (a b : Bool) → eqb (check l) 0 ≡ a → ltb k (count l) ≡ b → (a && b) ≡ true → There l k
    go true true p q t = record { fine = eqb-true (check l) 0 p; message = ltb-true k (count l) q }
    go true false p q t = false_true t
    go false b p q t = false_true t
