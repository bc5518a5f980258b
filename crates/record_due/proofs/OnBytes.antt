-- What is due, on bytes: refused, nothing is written; else what is due by value.
use mathlib.Core.Path.{◌≡◌, refl, sym, ap, ◌∙◌}
use mathlib.Core.Bool.{Bool, true, false, cond, ◌&&◌, ◌||◌}
use mathlib.Core.List.{List}
use Prim.Native.Nat.{ℕ, ◌≤◌}
use native.Mathlib.Omega.{arith}
use lib.Dec.{eqb, ltb}
use lib.ListN.{length}
use borrow.Author.Tests.{eq-eqb, ne_eqb, eqb-false, ltb-false}
use Rattle.record.specs.Layout.{record_size}
use Rattle.numbers.specs.Sizes.{most_open, longest_message}
use Rattle.numbers.specs.Refusal.{first_of}
use Rattle.letters.specs.Write.{answer}
use Rattle.coordinator.specs.declared.Coordinator.{Coordinator}
use Rattle.coordinator.specs.System.{tree}
use Rattle.clauses.specs.Clauses.{meets}
use Rattle.clauses.proofs.Parts.{neither_left, neither_right}
use Rattle.due.specs.Due.{due_written, due_buffer}
use Rattle.record.specs.Record.{record_of, given_ok, check}
use Rattle.record_due.specs.Call.{due_first, record_due, record_due_buffer}

module _ (l : List ℕ) (me node object : ℕ) where
  pub due_refused : (size n : ℕ) → n ≡ first_of (due_first l size) → (n ≡ 0 → ⊥) → answer n 0 ≡ record_due l me node object size
  unfolding record_due
  due_refused size n e h =
      let t : eqb (first_of (due_first l size)) 0 ≡ false = ne_eqb (first_of (due_first l size)) 0 (λ z. h (e ∙ z)) in
      simp t (ap (λ (k : ℕ). answer k 0) e)

  pub due_left : (out : List ℕ) (n : ℕ) → n ≡ first_of (due_first l (length out)) → (n ≡ 0 → ⊥) → out ≡ record_due_buffer l me node object out
  unfolding record_due_buffer
  due_left out n e h =
      let t : eqb (first_of (due_first l (length out))) 0 ≡ false = ne_eqb (first_of (due_first l (length out))) 0 (λ z. h (e ∙ z)) in
      simp t

  pub due_taken : (size : ℕ) → first_of (due_first l size) ≡ 0 → (c : Coordinator) → c ≡ record_of l
      → due_written tree size c me node object ≡ record_due l me node object size
  unfolding record_due
  due_taken size e c p = simp (eq-eqb (first_of (due_first l size)) 0 e) (ap (λ (x : Coordinator). due_written tree size x me node object) p)

  pub due_filled : (out : List ℕ) → first_of (due_first l (length out)) ≡ 0 → (c : Coordinator) → c ≡ record_of l
      → due_buffer tree c me node object out ≡ record_due_buffer l me node object out
  unfolding record_due_buffer
  due_filled out e c p =
      simp (eq-eqb (first_of (due_first l (length out))) 0 e) (ap (λ (x : Coordinator). due_buffer tree x me node object out) p)

-- nothing refuses: a record, and a buffer that is long enough
none_first : (a b : Bool) → ◌≡◌ {A = ℕ} (cond a 1 (cond b 2 0)) 0 → (a ≡ false) × (b ≡ false)
none_first true b e = absurd (let z : ⊥ = omega arith in z)
none_first false true e = absurd (let z : ⊥ = omega arith in z)
none_first false false e = (refl, refl)

zero_left : (a b : Bool) (n : ℕ) → n ≡ cond a (cond b 0 2) 1 → (n ≡ 1 → ⊥) → (n ≡ 2 → ⊥) → n ≡ 0
zero_left true true n e f g = e
zero_left true false n e f g = absurd (g e)
zero_left false b n e f g = absurd (f e)

clear : (l : List ℕ) → (check l ≡ 1 → ⊥) → (check l ≡ 2 → ⊥) → check l ≡ 0
unfolding check
clear l f g = zero_left (eqb (length l) record_size) (given_ok most_open l && meets tree (record_of l)) (check l) refl f g

pub due_clear : (l : List ℕ) (size : ℕ) → first_of (due_first l size) ≡ 0 → (check l ≡ 0) × (longest_message ≤ size)
unfolding due_first
due_clear l size e =
    let p = none_first (eqb (check l) 1 || ltb size longest_message) (eqb (check l) 2) e in
    let a = neither_left (eqb (check l) 1) (ltb size longest_message) p.0 in
    let b = neither_right (eqb (check l) 1) (ltb size longest_message) p.0 in
    (clear l (eqb-false (check l) 1 a) (eqb-false (check l) 2 p.1), ltb-false size longest_message b)

-- the number of bytes is 0, 1 or 2
told_twice : (a b : Bool)
    → ◌≡◌ {A = ℕ} (cond a (cond b 0 2) 1) (cond (eqb (cond a (cond b 0 2) 1) 1) 1 (cond (eqb (cond a (cond b 0 2) 1) 2) 2 0))
told_twice true true = refl
told_twice true false = refl
told_twice false b = refl

or_none : (b : Bool) → b ≡ (b || false)
or_none true = refl
or_none false = refl

pub due_check : (l : List ℕ) (size : ℕ) → ltb size longest_message ≡ false → check l ≡ first_of (due_first l size)
unfolding check due_first
due_check l size t =
    told_twice (eqb (length l) record_size) (given_ok most_open l && meets tree (record_of l))
    ∙ ap (λ (b : Bool). cond b 1 (cond (eqb (check l) 2) 2 0)) (or_none (eqb (check l) 1))
    ∙ ap (λ (b : Bool). cond (eqb (check l) 1 || b) 1 (cond (eqb (check l) 2) 2 0)) (sym t)
