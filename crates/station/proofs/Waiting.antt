-- What a delivery leaves of the pool.
use mathlib.Core.Path.{◌≡◌, refl, sym, ap, ◌∙◌}
use mathlib.Core.Bool.{Bool, true, false, not}
use mathlib.Core.List.{List}
use Prim.Native.Nat.{ℕ, ◌<◌}
use lib.Dec.{ltb, leb}
use borrow.Author.Tests.{lt-ltb, le-ltb, leb-true, leb-false}
use Rattle.numbers.specs.Sizes.{most_waiting}
use Rattle.pool.specs.Pool.{count, check}
use Rattle.pool.specs.Change.{removed, remove_after}
use Rattle.pool.proofs.Numbers.{There, fine, remove_after_lem}
use Rattle.pool.proofs.Laws.{check_removed}
use Rattle.station.specs.Messages.{leaving}

-- a message that waits, and the pool without it
pub there_of : (P : List ℕ) (k : ℕ) → check P ≡ 0 → k < count P → There P k
there_of P k e h = record { pool = fine P e; message = h }

pub taken_out : (P : List ℕ) (k : ℕ) → check P ≡ 0 → k < count P → remove_after P k ≡ removed P k
taken_out P k e h = remove_after_lem P k (there_of P k e h)

-- ---- what is left of it
pub check_leaving : (P : List ℕ) (k : ℕ) (kept : Bool) → check P ≡ 0 → k < count P → check (leaving P k kept) ≡ 0
check_leaving P k true e h = e
check_leaving P k false e h = check_removed P k (there_of P k e h)

-- a pool is full as the code tests it
pub full_as : (n m : ℕ) → n ≡ m → leb most_waiting n ≡ not (ltb m most_waiting)
full_as n m e = ap (leb most_waiting) e ∙ by (leb most_waiting m) refl
  where
    by : (b : Bool) → leb most_waiting m ≡ b → b ≡ not (ltb m most_waiting)
    by true t = ap not (sym (le-ltb m most_waiting (leb-true most_waiting m t)))
    by false t = ap not (sym (lt-ltb m most_waiting (leb-false most_waiting m t)))
