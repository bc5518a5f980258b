-- A drop and a switch over the buffers: the pool's own removal, and a mask written back.
use mathlib.Core.Path.{◌≡◌, refl, sym, ap, ◌∙◌}
use mathlib.Core.Bool.{Bool, true, false, cond, not}
use mathlib.Core.List.{List}
use Prim.Native.Nat.{ℕ}
use native.Mathlib.Omega.{arith}
use lib.Dec.{eqb, ltb, leb}
use lib.ListN.{length}
use borrow.Author.Tests.{eq-eqb, eqb-true, leb-true, leb-false, lt-ltb, le-ltb}
use Rattle.pool.specs.Pool.{count, waiting, check}
use Rattle.pool.specs.Change.{removed, remove_refusals, remove_number, remove_after}
use Rattle.pool.proofs.Laws.{length_waiting}
use Rattle.steps.specs.Step.{step, drop_of}
use Rattle.buffers.specs.Buffers.{station_of, answer_with, told}
use Rattle.station.specs.Messages.{dropping, drop_told, drop_pool}

module _ (P : List ℕ) (k : ℕ) where
  both : (answer_with (remove_number P k) 0 ≡ drop_told (dropping P) k) × (remove_after P k ≡ drop_pool (dropping P) k)
  unfolding told drop_pool step drop_of remove_number remove_refusals remove_after
  both = by (eqb (check P) 0) (leb (count P) k) refl refl
    where
      waits : (b : Bool) → leb (count P) k ≡ b → ltb k (length (waiting P)) ≡ not b
      waits true t = let n = length_waiting P in let l = leb-true (count P) k t in le-ltb k (length (waiting P)) (omega arith)
      waits false t = let n = length_waiting P in let l = leb-false (count P) k t in lt-ltb k (length (waiting P)) (omega arith)

      by : (a b : Bool) → eqb (check P) 0 ≡ a → leb (count P) k ≡ b
          → (answer_with (remove_number P k) 0 ≡ drop_told (dropping P) k) × (remove_after P k ≡ drop_pool (dropping P) k)
      by true true p q = let w = waits true q in (simp (p, q, w), simp (p, q, w))
      by true false p q = let w = waits false q in (simp (p, q, w), simp (p, q, w))
      by false b p q = (simp p, simp p)

  pub drop_told_lem : answer_with (remove_number P k) 0 ≡ drop_told (dropping P) k
  drop_told_lem = both.0

  pub drop_left : remove_after P k ≡ drop_pool (dropping P) k
  drop_left = both.1
