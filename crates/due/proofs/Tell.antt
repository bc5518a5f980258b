-- What the caller sees, by whether something is due: the code's test is `is_due`, and the kind is then `due_kind`.
use mathlib.Core.Path.{◌≡◌, refl, sym, ap, ◌∙◌}
use mathlib.Core.Bool.{Bool, true, false, cond, ◌&&◌}
use mathlib.Core.List.{List}
use Prim.Native.Nat.{ℕ}
use native.Mathlib.Omega.{arith}
use lib.Dec.{eqb, ltb}
use lib.ListN.{length}
use Rattle.numbers.specs.Sizes.{longest_message}
use Rattle.numbers.specs.Refusal.{first_of}
use Rattle.letters.specs.Write.{answer, written_of, buffer_after}
use Rattle.coordinator.specs.declared.Coordinator.{Coordinator}
use Rattle.due.specs.declared.Duty.{Duty}
use Rattle.coordinator.specs.System.{System}
use Rattle.due.specs.Kind.{due_kind, due_refusals, due_of}
use Rattle.due.specs.Due.{message_due, write_refusals, is_due, due_written, due_buffer}

-- the kind counts only where nothing refuses
kind_counts : (b : Bool) (k : ℕ) → (b && ltb 0 (cond b k 0)) ≡ (b && ltb 0 k)
kind_counts true k = refl
kind_counts false k = refl

kind_free : (b : Bool) (x : Bool) (k : ℕ) → (b && x) ≡ true → cond b k 0 ≡ k
kind_free true x k e = refl
kind_free false x k e = absurd (let z : ◌≡◌ {A = ℕ} 0 1 = cc in let w : ⊥ = omega arith in w)

kind_long : (short : Bool) (n : ℕ) (x : Bool) (k : ℕ) → (eqb (cond short 1 n) 0 && x) ≡ true → cond (eqb n 0) k 0 ≡ k
kind_long true n x k e = absurd (let z : ◌≡◌ {A = ℕ} 0 1 = cc in let w : ⊥ = omega arith in w)
kind_long false n x k e = kind_free (eqb n 0) x k e

module _ (s : System) (c : Coordinator) (me node object : ℕ) where
  pub short_not : (size : ℕ) → ltb size longest_message ≡ true → is_due s size c me node object ≡ false
  unfolding is_due write_refusals
  short_not size t = simp t

  pub short_written : (size : ℕ) → ltb size longest_message ≡ true → answer 1 0 ≡ due_written s size c me node object
  unfolding due_written is_due write_refusals
  short_written size t = simp t

  -- the code's test
  pub due_test : (size : ℕ) → ltb size longest_message ≡ false → (d : Duty) → d ≡ due_of s c me node object → {b : Bool}
      → (eqb d.number 0 && ltb 0 d.kind) ≡ b → is_due s size c me node object ≡ b
  unfolding due_of is_due write_refusals
  due_test size t d e {b} h =
      let n : ℕ = first_of (due_refusals c me node object) in
      let k : ℕ = due_kind s c node object in
      let f : (eqb n 0 && ltb 0 (cond (eqb n 0) k 0)) ≡ b = ap (λ (x : Duty). eqb x.number 0 && ltb 0 x.kind) (sym e) ∙ h in
      simp t (sym (kind_counts (eqb n 0) k) ∙ f)

  kind_due : (size : ℕ) → is_due s size c me node object ≡ true → (due_of s c me node object).kind ≡ due_kind s c node object
  unfolding due_of is_due write_refusals
  kind_due size t = kind_long (ltb size longest_message) (first_of (due_refusals c me node object)) _ (due_kind s c node object) t

  pub written_taken : (size : ℕ) → is_due s size c me node object ≡ true → (d : Duty) → d ≡ due_of s c me node object
      → written_of size (message_due c me node object d.kind) ≡ due_written s size c me node object
  unfolding due_written
  written_taken size t d e =
      simp t (ap (λ (k : ℕ). written_of size (message_due c me node object k)) (ap (λ (x : Duty). x.kind) e ∙ kind_due size t))

  pub written_left : (size : ℕ) → ltb size longest_message ≡ false → is_due s size c me node object ≡ false → (d : Duty) → d ≡ due_of s c me node object
      → answer d.number 0 ≡ due_written s size c me node object
  unfolding due_written write_refusals due_of
  written_left size h t d e = simp (t, h) (ap (λ (x : Duty). answer x.number 0) e)

  pub buffer_taken : (l : List ℕ) → is_due s (length l) c me node object ≡ true → (d : Duty) → d ≡ due_of s c me node object
      → buffer_after (message_due c me node object d.kind) l ≡ due_buffer s c me node object l
  unfolding due_buffer
  buffer_taken l t d e =
      simp t (ap (λ (k : ℕ). buffer_after (message_due c me node object k) l) (ap (λ (x : Duty). x.kind) e ∙ kind_due (length l) t))

  pub buffer_left : (l : List ℕ) → is_due s (length l) c me node object ≡ false → l ≡ due_buffer s c me node object l
  unfolding due_buffer
  buffer_left l t = simp t
