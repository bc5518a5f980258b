-- A node's record among the records, and a call on its bytes, by whether they are a record.
use mathlib.Core.Path.{◌≡◌, refl, sym, ap, ◌∙◌}
use mathlib.Core.Bool.{Bool, true, false, cond, not, ◌&&◌}
use mathlib.Core.List.{List, ◌++◌}
use Prim.Native.Nat.{ℕ, ◌*◌, ◌<◌}
use native.Mathlib.Omega.{arith}
use lib.Dec.{eqb}
use lib.ListN.{length, take, drop, take-append-drop}
use borrow.Author.Tests.{eq-eqb, lt-ltb}
use Rattle.record.specs.Layout.{record_size}
use Rattle.numbers.specs.Sizes.{nodes, most_open}
use Rattle.parts.specs.Parts.{part, splice}
use Rattle.parts.proofs.Laws.{length_part}
use Rattle.replica.proofs.Spoken.{false_true}
use Rattle.coordinator.specs.declared.Coordinator.{Coordinator}
use Rattle.coordinator.specs.Step.{Step}
use Rattle.coordinator.specs.System.{tree}
use Rattle.clauses.specs.Clauses.{meets}
use Rattle.record.specs.Record.{given_ok, record_of, check}
use Rattle.record.specs.Call.{told_by, called_of, kept, record_after}
use Rattle.buffers.specs.Buffers.{record_at, with_record_at, record_in, record_damaged, records_size}

-- what was there written back leaves all as it was
pub splice_same : (n a : ℕ) (l : List ℕ) → splice n a (part n a l) l ≡ l
unfolding splice part
splice_same n a l = ap (◌++◌ (take a l)) (take-append-drop n (drop a l)) ∙ take-append-drop a l

pub record_same : (R : List ℕ) (n : ℕ) → with_record_at R n (record_at R n) ≡ R
unfolding with_record_at record_at
record_same R n = splice_same record_size (record_size * n) R

length_record : (R : List ℕ) (n : ℕ) → n < nodes → length R ≡ records_size → length (record_at R n) ≡ record_size
unfolding record_at
length_record R n h e = length_part record_size (record_size * n) R (omega arith)

two : (a b : Bool) → a ≡ true → (◌≡◌ {A = ℕ} (cond a (cond b 0 2) 1) 0 → ⊥) → ◌≡◌ {A = ℕ} (cond a (cond b 0 2) 1) 2
two true true e h = absurd (h refl)
two true false e h = refl
two false b e h = absurd (false_true e)

-- a node's bytes that are no record are damaged
pub damaged_two : (R : List ℕ) (n : ℕ) → n < nodes → length R ≡ records_size → (check (record_at R n) ≡ 0 → ⊥) → check (record_at R n) ≡ 2
unfolding check
damaged_two R n h e =
    let l = record_at R n in
    two (eqb (length l) record_size) (given_ok most_open l && meets tree (record_of l)) (eq-eqb (length l) record_size (length_record R n h e))

pub damaged_is : (R : List ℕ) (n : ℕ) → n < nodes → (b : Bool) → eqb (check (record_at R n)) 0 ≡ b → record_damaged R n ≡ not b
unfolding record_damaged
damaged_is R n h b e = simp (lt-ltb n nodes h, e)

-- where they are one, the call on the bytes is the call by value at the node
module _ (R : List ℕ) (n : ℕ) (f : Coordinator → Step) (h : n < nodes) (e : eqb (check (record_at R n)) 0 ≡ true) where
  record_in_lem : record_in R n ≡ record_of (record_at R n)
  unfolding record_in
  record_in_lem = simp (lt-ltb n nodes h)

  pub same_called : called_of f (record_at R n) ≡ told_by (f (record_in R n))
  unfolding called_of
  same_called = simp e (ap (λ (c : Coordinator). told_by (f c)) (sym record_in_lem))

  pub same_after : record_after f (record_at R n) ≡ kept (f (record_in R n)) (record_at R n)
  unfolding record_after
  same_after = simp e (ap (λ (c : Coordinator). kept (f c) (record_at R n)) (sym record_in_lem))
