-- The places of a record's objects: what is tested across them holds at each, where an object stands, and what stands where after one is put.
use mathlib.Core.Path.{◌≡◌, refl, sym, ap, ◌∙◌, subst}
use mathlib.Core.Bool.{Bool, true, false, cond, ◌&&◌, ◌||◌}
use mathlib.Core.List.{List, [], ◌∷◌}
use mathlib.Core.Logic.{◌⊎◌, inl, inr, ⊎_elim}
use Prim.Native.Nat.{ℕ, zero, suc, ◌+◌, ◌<◌, ◌≤◌}
use native.Mathlib.Omega.{arith}
use lib.Dec.{T, eqb, ltb, eqb→eq, ltb→lt, lt→ltb}
use lib.ListN.{length, get_or, set, replicate}
use lib.Seq.{get_or-set_same, get_or-set_other}
use borrow.Author.Tests.{eqb-true, eqb-false, ltb-true, ltb-false}
use Rattle.numbers.specs.Sizes.{most_open}
use Rattle.mask.proofs.Tests.{and_both, and_left, and_right}
use Rattle.coordinator.specs.declared.Object.{Object}
use Rattle.coordinator.specs.State.{no_object, across, here_else, place_in}
use Rattle.clauses.proofs.Parts.{eq-T, by_test, true-T, neither_left, neither_right}

-- what stands at a place
abbrev pub at : List Object → ℕ → Object
at l i = get_or l i no_object

-- ---- a test of every place
abbrev pub every_place : (ℕ → Object → Bool) → ℕ → Object → Bool → Bool
every_place f i x rest = f i x && rest

each_from : (f : ℕ → Object → Bool) (k : ℕ) (l : List Object) → T (across (every_place f) true k l)
    → (i : ℕ) → i < length l → T (f (k + i) (at l i))
each_from f k [] t i h = absurd (omega arith)
each_from f k (x ∷ l) t zero h = subst (λ (n : ℕ). T (f n x)) (omega arith) (and_left (f k x) (across (every_place f) true (k + 1) l) t)
each_from f k (x ∷ l) t (suc i) h =
    subst (λ (n : ℕ). T (f n (at l i))) (omega arith)
    (each_from f (k + 1) l (and_right (f k x) (across (every_place f) true (k + 1) l) t) i (omega arith))

from_each : (f : ℕ → Object → Bool) (k : ℕ) (l : List Object) → ((i : ℕ) → i < length l → T (f (k + i) (at l i)))
    → T (across (every_place f) true k l)
from_each f k [] h = tt
from_each f k (x ∷ l) h =
    and_both (f k x) (across (every_place f) true (k + 1) l) (subst (λ (n : ℕ). T (f n x)) (omega arith) (h 0 (omega arith)))
    (from_each f (k + 1) l (λ i b. subst (λ (n : ℕ). T (f n (at l i))) (omega arith) (h (suc i) (omega arith))))

module _ (f : ℕ → Object → Bool) (l : List Object) where
  pub across_at : T (across (every_place f) true 0 l) → (i : ℕ) → i < length l → T (f i (at l i))
  across_at t i h = subst (λ (n : ℕ). T (f n (at l i))) (omega arith) (each_from f 0 l t i h)

  pub across_all : ((i : ℕ) → i < length l → T (f i (at l i))) → T (across (every_place f) true 0 l)
  across_all h = from_each f 0 l (λ i k. subst (λ (n : ℕ). T (f n (at l i))) (omega arith) (h i k))

-- a test of some place that fails: it fails at each
abbrev pub some_place : (ℕ → Object → Bool) → ℕ → Object → Bool → Bool
some_place f i x rest = f i x || rest

none_from : (f : ℕ → Object → Bool) (k : ℕ) (l : List Object) → across (some_place f) false k l ≡ false
    → (i : ℕ) → i < length l → f (k + i) (at l i) ≡ false
none_from f k [] e i h = absurd (omega arith)
none_from f k (x ∷ l) e zero h = subst (λ (n : ℕ). f n x ≡ false) (omega arith) (neither_left (f k x) (across (some_place f) false (k + 1) l) e)
none_from f k (x ∷ l) e (suc i) h =
    subst (λ (n : ℕ). f n (at l i) ≡ false) (omega arith)
    (none_from f (k + 1) l (neither_right (f k x) (across (some_place f) false (k + 1) l) e) i (omega arith))

pub across_none : (f : ℕ → Object → Bool) (l : List Object) → across (some_place f) false 0 l ≡ false → (i : ℕ) → i < length l → f i (at l i) ≡ false
across_none f l e i h = subst (λ (n : ℕ). f n (at l i) ≡ false) (omega arith) (none_from f 0 l e i h)

-- and one that fails at each fails
none_at_all : (f : ℕ → Object → Bool) (k : ℕ) (l : List Object) → ((i : ℕ) → i < length l → f (k + i) (at l i) ≡ false)
    → across (some_place f) false k l ≡ false
none_at_all f k [] h = refl
none_at_all f k (x ∷ l) h =
    let a : f k x ≡ false = subst (λ (n : ℕ). f n x ≡ false) (omega arith) (h 0 (omega arith)) in
    let b = none_at_all f (k + 1) l (λ i j. subst (λ (n : ℕ). f n (at l i) ≡ false) (omega arith) (h (suc i) (omega arith))) in
    simp (a, b)

pub none_across : (f : ℕ → Object → Bool) (l : List Object) → ((i : ℕ) → i < length l → f i (at l i) ≡ false) → across (some_place f) false 0 l ≡ false
none_across f l h = none_at_all f 0 l (λ i k. subst (λ (n : ℕ). f n (at l i) ≡ false) (omega arith) (h i k))

-- ---- where an object stands
-- at a place below the count that has it, or at 8 and no place below the count has it; the places are those from k on
abbrev Placed : List Object → ℕ → ℕ → ℕ → ℕ → Type 0
Placed l n t k p =
    ((j : ℕ) × (p ≡ k + j) × (k + j < n) × (j < length l) × ((at l j).object ≡ t))
    ⊎ ((p ≡ most_open) × ((j : ℕ) → k + j < n → j < length l → (at l j).object ≡ t → ⊥))

later : (x : Object) (l : List Object) (n t k p : ℕ) → (k < n → x.object ≡ t → ⊥) → Placed l n t (k + 1) p → Placed (x ∷ l) n t k p
later x l n t k p h = ⊎_elim (λ a. inl (suc a.0, omega (arith, a.1), omega (arith, a.2), omega (arith, a.3), a.4)) (λ a. inr (a.0, none a.1))
  where
    none : ((j : ℕ) → k + 1 + j < n → j < length l → (at l j).object ≡ t → ⊥) → (j : ℕ) → k + j < n → j < length (x ∷ l) → (at (x ∷ l) j).object ≡ t → ⊥
    none f zero a b e = h (omega arith) e
    none f (suc j) a b e = f j (omega arith) (omega arith) e

placed : (l : List Object) (n t k : ℕ) → Placed l n t k (across (here_else t n) most_open k l)
placed [] n t k = inr (refl, λ j a b e. omega arith)
placed (x ∷ l) n t k = by (placed l n t (k + 1)) (ltb k n && eqb x.object t) refl
  where
    by : {p : ℕ} → Placed l n t (k + 1) p → (b : Bool) → (ltb k n && eqb x.object t) ≡ b → Placed (x ∷ l) n t k (cond b k p)
    by {p} r true e =
        let u = true-T (ltb k n && eqb x.object t) e in
        let a = ltb→lt k n (and_left (ltb k n) (eqb x.object t) u) in
        inl (0, omega arith, omega arith, omega arith, eqb→eq x.object t (and_right (ltb k n) (eqb x.object t) u))
    by {p} r false e =
        later x l n t k p (λ a b. subst T e (and_both (ltb k n) (eqb x.object t) (lt→ltb k n a) (eq-T x.object t b))) r

module _ (l : List Object) (n t : ℕ) where
  -- an object that is open: its place is below the count, and it stands there
  pub place_open : place_in l n t < most_open → (place_in l n t < n) × ((place_in l n t < length l) × ((at l (place_in l n t)).object ≡ t))
  unfolding place_in
  place_open h =
      ⊎_elim
      (λ a. let e : a.0 ≡ across (here_else t n) most_open 0 l = omega (arith, a.1) in
      (omega (arith, a.2), (omega (arith, a.3), subst (λ (p : ℕ). (at l p).object ≡ t) e a.4)))
      (λ a. absurd (let z : ⊥ = omega (arith, a.0) in z)) (placed l n t 0)

  -- one that is not: it stands nowhere
  pub place_shut : most_open ≤ place_in l n t → length l ≤ most_open → (j : ℕ) → j < n → j < length l → (at l j).object ≡ t → ⊥
  unfolding place_in
  place_shut h k j a b e =
      ⊎_elim (λ c. let z : ⊥ = omega (arith, c.1, c.3) in z) (λ c. c.1 j (omega arith) b e) (placed l n t 0)

-- no object stands at two places
abbrev pub Once : List Object → ℕ → Type 0
Once l n = (i j : ℕ) → i < n → j < n → (at l i).object ≡ (at l j).object → i ≡ j

module _ (l : List Object) (n : ℕ) (eights : length l ≡ most_open) (small : n ≤ most_open) where
  -- then each stands where it is found
  pub place_at : Once l n → (i : ℕ) → i < n → place_in l n (at l i).object ≡ i
  place_at once i h =
      let t = (at l i).object in
      by_test (place_in l n t ≡ i) (ltb (place_in l n t) most_open)
      (λ e. let p = place_open l n t (ltb-true (place_in l n t) most_open e) in once (place_in l n t) i p.0 h p.1.1)
      (λ e. absurd (place_shut l n t (ltb-false (place_in l n t) most_open e) (omega arith) i h (omega arith) refl))

  pub at_place : ((i : ℕ) → i < n → place_in l n (at l i).object ≡ i) → Once l n
  at_place f i j h k e = sym (f i h) ∙ ap (place_in l n) e ∙ f j k

-- ---- after one is put
pub at_set : (P : Object → Type 0) (l : List Object) (p i : ℕ) (x : Object) → p < length l → (i ≡ p → P x) → ((i ≡ p → ⊥) → P (at l i)) → P (at (set l p x) i)
at_set P l p i x h f g =
    by_test (P (at (set l p x) i)) (eqb i p)
    (λ e. let d : i ≡ p = eqb-true i p e in
    subst P (sym (ap (at (set l p x)) d ∙ get_or-set_same l p x no_object h)) (f d))
    (λ e. subst P (sym (get_or-set_other l p i x no_object (eqb-false i p e))) (g (eqb-false i p e)))

-- blank places
pub at_blank : (n i : ℕ) → at (replicate n no_object) i ≡ no_object
at_blank zero i = refl
at_blank (suc n) zero = refl
at_blank (suc n) (suc i) = at_blank n i
