-- Bytes that are all 0, as a test and as a fact: of a range, of numbers in it, of an object.
use mathlib.Core.Path.{◌≡◌, refl, sym, ap, ◌∙◌}
use mathlib.Core.Bool.{Bool, true, false, ◌&&◌}
use mathlib.Core.List.{List, [], ◌∷◌}
use Prim.Native.Nat.{ℕ, zero, suc, ◌+◌, ◌*◌, ◌-◌, ◌<◌, ◌≤◌}
use native.Mathlib.Nat.{mul-suc}
use native.Mathlib.Numerals.{add-one}
use native.Mathlib.Omega.{arith}
use lib.Dec.{T, eqb, eqb→eq}
use borrow.Author.Tests.{eqb-false}
use lib.ListN.{length, get_or, take, drop, length-take, drop_of_length-le}
use lib.Seq.{get_or-take, get_or-drop, drop-cons}
use Rattle.mask.proofs.Tests.{same_test, and_both, and_left, and_right, compared}
use Rattle.octets.specs.Octets.{get}
use Rattle.wire.specs.Decode.{items_from}
use Rattle.coordinator.specs.declared.Object.{Object}
use Rattle.coordinator.specs.State.{no_object}
use Rattle.clauses.specs.Clauses.{zeros, object_blank}
use Rattle.clauses.proofs.Parts.{eq-T}
use Rattle.clauses.proofs.Facts.{blank_out}
use Rattle.record.specs.Record.{object_of}

pub last_true : (a : Bool) → (a && true) ≡ a
last_true true = refl
last_true false = refl

-- ---- a loop over the bytes: one turn, and the end
regroup : (a b c : Bool) → ((a && b) && c) ≡ (a && (b && c))
regroup true b c = refl
regroup false b c = refl

pub zeros_next : (ok : Bool) (l : List ℕ) (i : ℕ) → i < length l → ((ok && eqb (get_or l i 0) 0) && zeros (drop (i + 1) l)) ≡ (ok && zeros (drop i l))
unfolding zeros
zeros_next ok l i h = rw (add-one, drop-cons l i 0) (regroup ok (eqb (get_or l i 0) 0) (zeros (drop (suc i) l)))

pub zeros_end : (ok : Bool) (l : List ℕ) (i : ℕ) → length l ≤ i → (ok && zeros (drop i l)) ≡ zeros l → ok ≡ zeros l
unfolding zeros
zeros_end ok l i h e = sym (last_true ok) ∙ (rw (drop_of_length-le l h) at e)

-- ---- the bytes from a up to b are 0
abbrev pub Zero : List ℕ → ℕ → ℕ → Type 0
Zero l a b = (j : ℕ) → a ≤ j → j < b → get_or l j 0 ≡ 0

zero_join : (l : List ℕ) (a b c : ℕ) → Zero l a b → Zero l b c → Zero l a c
zero_join l a b c f g j h k = compared (get_or l j 0 ≡ 0) j b (λ p. f j h p) (λ p. g j (omega arith) k) (λ p. g j (omega arith) k)

zero_byte : (l : List ℕ) (a b : ℕ) → b ≤ a + 1 → get_or l a 0 ≡ 0 → Zero l a b
zero_byte l a b s e j h k = let p : j ≡ a = omega arith in ap (λ (n : ℕ). get_or l n 0) p ∙ e

each_zero : (l : List ℕ) → T (zeros l) → (j : ℕ) → get_or l j 0 ≡ 0
unfolding zeros
each_zero [] t j = refl
each_zero (x ∷ l) t zero = eqb→eq x 0 (and_left (eqb x 0) (zeros l) t)
each_zero (x ∷ l) t (suc j) = each_zero l (and_right (eqb x 0) (zeros l) t) j

all_zero : (l : List ℕ) → ((j : ℕ) → j < length l → get_or l j 0 ≡ 0) → T (zeros l)
unfolding zeros
all_zero [] h = tt
all_zero (x ∷ l) h = and_both (eqb x 0) (zeros l) (eq-T x 0 (h 0 (omega arith))) (all_zero l (λ j k. h (suc j) (omega arith)))

-- a range, tested
module _ (l : List ℕ) (a n : ℕ) where
  pub range_out : T (zeros (take n (drop a l))) → Zero l a (a + n)
  range_out t j h k =
      let i = j - a in
      let e : a + i ≡ j = omega arith in
      ap (λ (m : ℕ). get_or l m 0) (sym e) ∙ sym (get_or-drop a l i 0) ∙ sym (get_or-take n (drop a l) i 0 (omega arith))
      ∙ each_zero (take n (drop a l)) t i

  pub range_in : Zero l a (a + n) → T (zeros (take n (drop a l)))
  range_in f =
      all_zero (take n (drop a l)) (λ j h.
      let s : j < n = omega (arith, length-take n (drop a l)) in
      get_or-take n (drop a l) j 0 s ∙ get_or-drop a l j 0 ∙ f (a + j) (omega arith) (omega arith))

-- ---- a number is 0 where its bytes are
number_in : (k : ℕ) (l : List ℕ) (i : ℕ) → Zero l i (i + k) → get k l i ≡ 0
unfolding get
number_in zero l i f = refl
number_in (suc k) l i f =
    let a : get_or l i 0 ≡ 0 = f i (omega arith) (omega arith) in
    let b : get k l (i + 1) ≡ 0 = number_in k l (i + 1) (λ j p q. f j (omega arith) (omega arith)) in
    omega arith

number_out : (k : ℕ) (l : List ℕ) (i b : ℕ) → b ≤ i + k → get k l i ≡ 0 → Zero l i b
unfolding get
number_out zero l i b s e = λ j h p. absurd (let z : ⊥ = omega arith in z)
number_out (suc k) l i b s e =
    let x : get_or l i 0 ≡ 0 = omega arith in
    let y : get k l (i + 1) ≡ 0 = omega arith in
    zero_join l i (i + 1) b (zero_byte l i (i + 1) (omega arith) x) (number_out k l (i + 1) b (omega arith) y)

-- numbers of k bytes, one behind another
module _ (k : ℕ) (l : List ℕ) where
  numbers_out : (n i : ℕ) → T (zeros (items_from (get k) k n l i)) → Zero l i (i + k * n)
  unfolding zeros items_from
  numbers_out zero i t = λ j h p. absurd (let z : ⊥ = omega arith in z)
  numbers_out (suc n) i t =
      let rest = items_from (get k) k n l (i + k) in
      let a = number_out k l i (i + k) (omega arith) (eqb→eq (get k l i) 0 (and_left (eqb (get k l i) 0) (zeros rest) t)) in
      let b = numbers_out n (i + k) (and_right (eqb (get k l i) 0) (zeros rest) t) in
      zero_join l i (i + k) (i + k * suc n) a (λ j q r. b j q (omega (arith, mul-suc k n)))

  numbers_in : (n i : ℕ) → Zero l i (i + k * n) → T (zeros (items_from (get k) k n l i))
  unfolding zeros items_from
  numbers_in zero i f = tt
  numbers_in (suc n) i f =
      and_both (eqb (get k l i) 0) (zeros (items_from (get k) k n l (i + k)))
      (eq-T (get k l i) 0 (number_in k l i (λ j p q. f j p (omega (arith, mul-suc k n)))))
      (numbers_in n (i + k) (λ j p q. f j (omega arith) (omega (arith, mul-suc k n))))

  pub zero_numbers : (n i : ℕ) → zeros (take (k * n) (drop i l)) ≡ zeros (items_from (get k) k n l i)
  zero_numbers n i =
      same_test (zeros (take (k * n) (drop i l))) (zeros (items_from (get k) k n l i)) (λ t. numbers_in n i (range_out l i (k * n) t))
      (λ t. range_in l i (k * n) (numbers_out n i t))

-- ---- an object is blank where its bytes are 0, and whether a value was given is 0 or 1
module _ (l : List ℕ) (i : ℕ) where
  pub blank_bytes : T (object_blank (object_of l i)) → get_or l (i + 16) 0 ≤ 1 → Zero l i (i + 25)
  unfolding object_of
  blank_bytes t g =
      let e : object_of l i ≡ no_object = blank_out (object_of l i) t in
      let n : get_or l (i + 16) 0 ≡ 1 → ⊥ = eqb-false (get_or l (i + 16) 0) 1 (ap (λ (x : Object). x.given) e) in
      let m : get_or l (i + 16) 0 ≡ 0 = omega arith in
      let f : get_or l i 0 ≡ 0 = ap (λ (x : Object). x.object) e in
      zero_join l i (i + 1) _ (zero_byte l i (i + 1) (omega arith) f)
      (zero_join l (i + 1) (i + 2) _ (zero_byte l (i + 1) (i + 2) (omega arith) (ap (λ (x : Object). x.mode) e))
      (zero_join l (i + 2) (i + 4) _ (number_out 2 l (i + 2) (i + 4) (omega arith) (ap (λ (x : Object). x.came) e))
      (zero_join l (i + 4) (i + 8) _ (number_out 4 l (i + 4) (i + 8) (omega arith) (ap (λ (x : Object). x.version) e))
      (zero_join l (i + 8) (i + 16) _ (number_out 8 l (i + 8) (i + 16) (omega arith) (ap (λ (x : Object). x.value) e))
      (zero_join l (i + 16) (i + 17) _ (zero_byte l (i + 16) (i + 17) (omega arith) m)
      (number_out 8 l (i + 17) (i + 25) (omega arith) (ap (λ (x : Object). x.new) e)))))))

  pub bytes_blank : Zero l i (i + 25) → T (object_blank (object_of l i))
  unfolding object_blank object_of
  bytes_blank f =
      let a : get_or l i 0 ≡ 0 = f i (omega arith) (omega arith) in
      let b : get_or l (i + 1) 0 ≡ 0 = f (i + 1) (omega arith) (omega arith) in
      let g : get_or l (i + 16) 0 ≡ 0 = f (i + 16) (omega arith) (omega arith) in
      let part : (k at : ℕ) → i ≤ at → at + k ≤ i + 25 → get k l at ≡ 0 = λ k at h p. number_in k l at (λ j q r. f j (omega arith) (omega arith)) in
      rw (
        a,
        b,
        part 2 (i + 2) (omega arith) (omega arith),
        part 4 (i + 4) (omega arith) (omega arith),
        part 8 (i + 8) (omega arith) (omega arith),
        g,
        part 8 (i + 17) (omega arith) (omega arith),
      ) tt
