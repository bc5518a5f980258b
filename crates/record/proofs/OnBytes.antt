-- A call on bytes, by whether they are a record: refused bytes are left as they were, else the call by value decides.
use mathlib.Core.Path.{◌≡◌, refl, sym, ap, ◌∙◌}
use mathlib.Core.Bool.{Bool, true, false, cond}
use mathlib.Core.List.{List, [], ◌++◌, append-nil}
use Prim.Native.Nat.{ℕ, ◌≤◌}
use native.Mathlib.Omega.{arith}
use lib.Dec.{eqb}
use lib.ListN.{length, take, drop, drop_of_length-le}
use lib.Seq.{take_all}
use borrow.Author.Tests.{eq-eqb, ne_eqb, eqb-true}
use Rattle.record.specs.Layout.{record_size}
use Rattle.coordinator.specs.declared.Coordinator.{Coordinator}
use Rattle.coordinator.specs.Step.{Step}
use Rattle.coordinator.specs.State.{step_of}
use Rattle.record.specs.declared.Called.{Called}
use Rattle.record.specs.Record.{record_of, bytes_of, check}
use Rattle.record.specs.Call.{called, told_by, called_of, kept, record_after}

-- bytes that are a record have its length
long : (b : Bool) (n : ℕ) → cond b n 1 ≡ 0 → b ≡ true
long true n e = refl
long false n e = absurd (let z : ⊥ = omega arith in z)

pub checked_length : (l : List ℕ) → check l ≡ 0 → length l ≡ record_size
unfolding check
checked_length l e = eqb-true (length l) record_size (long (eqb (length l) record_size) _ e)

module _ (f : Coordinator → Step) (l : List ℕ) where
  pub refused_called : (n : ℕ) → n ≡ check l → (n ≡ 0 → ⊥) → called n 0 ≡ called_of f l
  unfolding called_of
  refused_called n e h = let t : eqb (check l) 0 ≡ false = ne_eqb (check l) 0 (λ z. h (e ∙ z)) in simp t (ap (λ (k : ℕ). called k 0) e)

  -- bytes that are no record are left as they were
  pub refused_record : (n : ℕ) → n ≡ check l → (n ≡ 0 → ⊥) → l ≡ record_after f l
  unfolding record_after
  refused_record n e h = let t : eqb (check l) 0 ≡ false = ne_eqb (check l) 0 (λ z. h (e ∙ z)) in simp t

  taken_called : check l ≡ 0 → (s : Step) → s ≡ f (record_of l) → called s.number s.answer ≡ called_of f l
  unfolding called_of
  taken_called e s p = simp (eq-eqb (check l) 0 e) (ap (λ (x : Step). called x.number x.answer) p)

  taken_record : check l ≡ 0 → (s : Step) → s ≡ f (record_of l) → kept s l ≡ record_after f l
  unfolding record_after
  taken_record e s p = simp (eq-eqb (check l) 0 e) (ap (λ (x : Step). kept x l) p)

  -- so are those of a call that is refused
  pub refused_leaves : ((called_of f l).number ≡ 0 → ⊥) → record_after f l ≡ l
  unfolding called_of record_after kept
  refused_leaves h = by (eqb (check l) 0) refl
    where
      by : (b : Bool) → eqb (check l) 0 ≡ b → record_after f l ≡ l
      by true e =
          let n : (f (record_of l)).number ≡ 0 → ⊥ = (λ z. h (simp e z)) in
          simp (e, ne_eqb (f (record_of l)).number 0 n)
      by false e = simp e

-- ---- a step by value: refused, it leaves the bytes; taken, it leaves those of its record
module _ (n a : ℕ) (c d : Coordinator) (l : List ℕ) where
  pub told_refused : (m : ℕ) → m ≡ n → (m ≡ 0 → ⊥) → called m 0 ≡ told_by (step_of n a c d)
  unfolding step_of
  told_refused m e h = simp (ne_eqb n 0 (λ z. h (e ∙ z))) (ap (λ (k : ℕ). called k 0) e)

  pub kept_refused : (m : ℕ) → m ≡ n → (m ≡ 0 → ⊥) → l ≡ kept (step_of n a c d) l
  unfolding step_of kept
  kept_refused m e h = let t : eqb n 0 ≡ false = ne_eqb n 0 (λ z. h (e ∙ z)) in simp (t, t)

  pub told_taken : n ≡ 0 → called 0 a ≡ told_by (step_of n a c d)
  unfolding step_of
  told_taken e = simp (eq-eqb n 0 e)

  pub kept_taken : n ≡ 0 → bytes_of d ≡ kept (step_of n a c d) l
  unfolding step_of kept
  kept_taken e = simp (eq-eqb n 0 e)

-- ---- a call that is handed the 301 bytes as a part: they are all the bytes
module _ (l : List ℕ) (e : check l ≡ 0) where
  pub all_of : take record_size l ≡ l
  all_of = take_all record_size l (let z = checked_length l e in omega arith)

  pub part_long : record_size ≤ length l
  part_long = let z = checked_length l e in omega arith

  pub part_count : record_size ≡ length (take record_size l)
  part_count = sym (ap length all_of ∙ checked_length l e)

  pub part_checked : check (take record_size l) ≡ 0
  part_checked = ap check all_of ∙ e

  pub part_called : (f : Coordinator → Step) (r : Called) → r ≡ told_by (f (record_of (take record_size l))) → r ≡ called_of f l
  part_called f r h = h ∙ taken_called f l e (f (record_of (take record_size l))) (ap (λ (m : List ℕ). f (record_of m)) all_of)

  pub part_record : (f : Coordinator → Step) (x : List ℕ) → x ≡ kept (f (record_of (take record_size l))) (take record_size l)
      → x ++ drop record_size l ≡ record_after f l
  part_record f x h =
      let n : length l ≤ record_size = (let z = checked_length l e in omega arith) in
      let gone : drop record_size l ≡ [] = drop_of_length-le l n in
      ap (λ (m : List ℕ). x ++ m) gone
      ∙ append-nil x ∙ h ∙ ap (λ (m : List ℕ). kept (f (record_of m)) m) all_of ∙ taken_record f l e (f (record_of l)) refl
