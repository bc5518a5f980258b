-- The entries of a record that meets its clauses: one for each open object and no other, ascending, as many as the count. The objects below n are
-- counted by the places of the record.
use mathlib.Core.Path.{◌≡◌, refl, sym, ap, ◌∙◌, subst}
use mathlib.Core.Bool.{Bool, true, false, cond, ◌&&◌}
use mathlib.Core.List.{List, [], ◌∷◌, ◌++◌, map}
use mathlib.Core.Logic.{◌⊎◌, inl, inr, ⊎_elim}
use Prim.Native.Nat.{ℕ, zero, suc, ◌+◌, ◌<◌, ◌≤◌}
use native.Mathlib.Omega.{arith}
use lib.Dec.{eqb, ltb, leb}
use borrow.Author.Tests.{eqb-true, eqb-false, eq-eqb, ne_eqb, ltb-true, ltb-false, lt-ltb, le-ltb, le-leb}
use lib.ListN.{length, get_or, length-append, get_or-append}
use lib.Seq.{get_or-append-add}
use Rattle.numbers.specs.Sizes.{objects, most_open}
use Rattle.mask.proofs.Tests.{and_left, and_right, T_true, compared}
use Rattle.wire.specs.declared.Entry.{Entry}
use Rattle.wire.specs.Encode.{All}
use Rattle.wire.specs.Items.{no_entry}
use Rattle.wire.specs.Formed.{ascend}
use Rattle.wire.proofs.Stores.{all_append}
use Rattle.coordinator.specs.declared.Object.{Object}
use Rattle.coordinator.specs.declared.Coordinator.{Coordinator}
use Rattle.coordinator.specs.System.{System}
use Rattle.coordinator.specs.State.{place_of, object_at, is_open}
use Rattle.clauses.proofs.Parts.{by_test, true-T}
use Rattle.clauses.proofs.Places.{at, place_open, place_at}
use Rattle.clauses.proofs.Facts.{Meets}
use Rattle.due.specs.Due.{entry_for, with_next, entries_below, entries_of}

-- ---- numbers as tests count them
abbrev one : Bool → ℕ
one b = cond b 1 0

one_lt : (a b : ℕ) → ((a < b) × (one (ltb a b) ≡ 1)) ⊎ ((b ≤ a) × (one (ltb a b) ≡ 0))
one_lt a b =
    by_test (((a < b) × (one (ltb a b) ≡ 1)) ⊎ ((b ≤ a) × (one (ltb a b) ≡ 0))) (ltb a b) (λ e. inl (ltb-true a b e, ap one e))
    (λ e. inr (ltb-false a b e, ap one e))

one_suc : (x n : ℕ) → one (ltb x (suc n)) ≡ one (ltb x n) + one (eqb x n)
one_suc x n =
    compared (one (ltb x (suc n)) ≡ one (ltb x n) + one (eqb x n)) x n
    (λ h. omega (arith, ap one (lt-ltb x (suc n) (omega arith)), ap one (lt-ltb x n h), ap one (ne_eqb x n (λ e. omega arith))))
    (λ h. omega (arith, ap one (lt-ltb x (suc n) (omega arith)), ap one (le-ltb x n (omega arith)), ap one (eq-eqb x n h)))
    (λ h. omega (arith, ap one (le-ltb x (suc n) h), ap one (le-ltb x n (omega arith)), ap one (ne_eqb x n (λ e. omega arith))))

same_eq : (x n p k : ℕ) → (x ≡ n → p ≡ k) → (p ≡ k → x ≡ n) → eqb x n ≡ eqb p k
same_eq x n p k f g =
    by_test (eqb x n ≡ eqb p k) (eqb x n) (λ e. e ∙ sym (eq-eqb p k (f (eqb-true x n e)))) (λ e. e ∙ sym (ne_eqb p k (λ z. eqb-false x n e (g z))))

-- how many of the first k places have an object below n
unfoldable below : List Object → ℕ → ℕ → ℕ
below l n zero = 0
below l n (suc k) = below l n k + one (ltb (at l k).object n)

below_most : (l : List Object) (n k : ℕ) → below l n k ≤ k
unfolding below
below_most l n zero = omega arith
below_most l n (suc k) = ⊎_elim (λ a. omega (arith, below_most l n k, a.1)) (λ a. omega (arith, below_most l n k, a.1)) (one_lt (at l k).object n)

below_zero : (l : List Object) (k : ℕ) → below l 0 k ≡ 0
unfolding below
below_zero l zero = refl
below_zero l (suc k) = ⊎_elim (λ a. absurd (let z : ⊥ = omega (arith, a.0) in z)) (λ a. omega (arith, below_zero l k, a.1)) (one_lt (at l k).object 0)

below_all : (l : List Object) (n k : ℕ) → ((i : ℕ) → i < k → (at l i).object < n) → below l n k ≡ k
unfolding below
below_all l n zero h = refl
below_all l n (suc k) h =
    ⊎_elim (λ a. omega (arith, below_all l n k (λ i b. h i (omega arith)), a.1)) (λ a. absurd (let z : ⊥ = omega (arith, h k (omega arith), a.0) in z))
    (one_lt (at l k).object n)

-- ---- lists of entries
-- an entry stands at a place of a list
abbrev pub Stands : Entry → List Entry → Type 0
Stands e es = (i : ℕ) × (i < length es) × (get_or es i no_entry ≡ e)

stands_last : (es : List Entry) (e : Entry) → Stands e (es ++ (e ∷ []))
stands_last es e = (
  length es,
  (let q = length-append es (e ∷ []) in let z : length es < length (es ++ (e ∷ [])) = omega arith in z),
  (let z : length es ≡ length es + 0 = omega arith in ap (λ (i : ℕ). get_or (es ++ (e ∷ [])) i no_entry) z ∙ get_or-append-add es (e ∷ []) 0 no_entry),
)

stands_longer : (es more : List Entry) (e : Entry) → Stands e es → Stands e (es ++ more)
stands_longer es more e t = (
  t.0,
  (let q = length-append es more in let h = t.1 in let z : t.0 < length (es ++ more) = omega arith in z),
  get_or-append es more no_entry t.0 t.1 ∙ t.2,
)

all_at : (P : Entry → Type 0) (es : List Entry) (i : ℕ) → i < length es → All P es → P (get_or es i no_entry)
all_at P [] i h a = absurd (let z : ⊥ = omega arith in z)
all_at P (e ∷ es) zero h a = a.0
all_at P (e ∷ es) (suc i) h a = all_at P es i (omega arith) a.1

all_wider : (n : ℕ) (es : List Entry) → All (λ (e : Entry). e.object < n) es → All (λ (e : Entry). e.object < suc n) es
all_wider n [] a = tt
all_wider n (e ∷ es) a = ((let h = a.0 in let z : e.object < suc n = omega arith in z), all_wider n es a.1)

-- one more at the end, above them all
ascend_snoc : (n : ℕ) (es : List Entry) (x : Entry) (lo : ℕ) → lo ≤ n → x.object ≡ n → All (λ (e : Entry). e.object < n) es
    → ascend lo (map (λ (e : Entry). e.object) es) ≡ true → ascend lo (map (λ (e : Entry). e.object) (es ++ (x ∷ []))) ≡ true
unfolding ascend
ascend_snoc n [] x lo h e a t = simp (le-leb lo x.object (omega arith))
ascend_snoc n (y ∷ es) x lo h e a t =
    let u = true-T (leb lo y.object && ascend (y.object + 1) (map (λ (e : Entry). e.object) es)) t in
    let low = T_true (leb lo y.object) (and_left (leb lo y.object) _ u) in
    let rest = T_true _ (and_right (leb lo y.object) (ascend (y.object + 1) (map (λ (e : Entry). e.object) es)) u) in
    let under = a.0 in
    simp (low, ascend_snoc n es x (y.object + 1) (omega arith) e a.1 rest)

below_not : (k n : ℕ) → k < suc n → (k ≡ n → ⊥) → k < n
below_not k n h f = compared (k < n) k n (λ z. z) (λ z. absurd (f z)) (λ z. absurd (let w : ⊥ = omega arith in w))

module _ (s : System) (c : Coordinator) (m : Meets s c) where
  -- where an open object stands
  pub open_place : (n : ℕ) → is_open c n ≡ true → (place_of c n < c.count) × ((object_at c n).object ≡ n)
  open_place n e = let p = place_open c.objects c.count n (ltb-true (place_of c n) most_open e) in (p.0, p.1.1)

  -- an object that stands at a place is found there, and no other object is
  here : (n k : ℕ) → k < c.count → (at c.objects k).object ≡ n → place_of c n ≡ k
  here n k h e = ap (place_of c) (sym e) ∙ place_at c.objects c.count m.sizes.objects_8 m.objects.eight_at_most m.objects.once k h

  stands : (n k : ℕ) → k < c.count → place_of c n ≡ k → (at c.objects k).object ≡ n
  stands n k h e =
      let small = m.objects.eight_at_most in
      let p = place_open c.objects c.count n (let z : place_of c n < most_open = omega arith in z) in
      subst (λ (i : ℕ). (at c.objects i).object ≡ n) e p.1.1

  -- one object more
  below_next : (n k : ℕ) → k ≤ c.count → below c.objects (suc n) k ≡ below c.objects n k + one (ltb (place_of c n) k)
  unfolding below
  below_next n zero h = ⊎_elim (λ a. absurd (let z : ⊥ = omega (arith, a.0) in z)) (λ a. omega (arith, a.1)) (one_lt (place_of c n) 0)
  below_next n (suc k) h =
      let p : ℕ = place_of c n in
      let x : ℕ = (at c.objects k).object in
      let e : one (eqb x n) ≡ one (eqb p k) = ap one (same_eq x n p k (here n k (omega arith)) (stands n k (omega arith))) in
      omega (arith, below_next n k (omega arith), one_suc x n, one_suc p k)

  -- the count of the entries below n; so there is always room for an open object
  open_one : (n : ℕ) → is_open c n ≡ true → one (ltb (place_of c n) c.count) ≡ 1
  open_one n e = ap one (lt-ltb (place_of c n) c.count (open_place n e).0)

  shut_one : (n : ℕ) → is_open c n ≡ false → one (ltb (place_of c n) c.count) ≡ 0
  shut_one n e =
      let small = m.objects.eight_at_most in
      ap one (le-ltb (place_of c n) c.count (let z : c.count ≤ place_of c n = omega (arith, ltb-false (place_of c n) most_open e) in z))

  room : (n : ℕ) (es : List Entry) → length es ≡ below c.objects n c.count → is_open c n ≡ true → length es < most_open
  room n es e o =
      let small = m.objects.eight_at_most in
      omega (arith, below_next n c.count (omega arith), open_one n o, below_most c.objects (suc n) c.count)

  next_open : (n : ℕ) (es : List Entry) → length es ≡ below c.objects n c.count → is_open c n ≡ true
      → with_next c n es ≡ es ++ (entry_for (object_at c n) ∷ [])
  unfolding with_next
  next_open n es e o = simp (o, lt-ltb (length es) most_open (room n es e o))

  next_shut : (n : ℕ) (es : List Entry) → is_open c n ≡ false → with_next c n es ≡ es
  unfolding with_next
  next_shut n es o = simp o

  length_below : (n : ℕ) → length (entries_below c n) ≡ below c.objects n c.count
  unfolding entries_below
  length_below zero = sym (below_zero c.objects c.count)
  length_below (suc n) =
      let es = entries_below c n in
      let ih = length_below n in
      let next = below_next n c.count (omega arith) in
      by_test (length (with_next c n es) ≡ below c.objects (suc n) c.count) (is_open c n)
      (λ o. ap length (next_open n es ih o) ∙ length-append es (entry_for (object_at c n) ∷ []) ∙ (let k = open_one n o in omega arith))
      (λ o. ap length (next_shut n es o) ∙ (let k = shut_one n o in omega arith))

  -- there are as many entries as open objects
  pub entries_count : length (entries_of c) ≡ c.count
  unfolding entries_of
  entries_count = length_below objects ∙ below_all c.objects objects c.count (λ i h. (m.objects.opened i h).object_known)

  -- ---- a fact about every entry: it holds of the entry of each open object
  pub every_entry : (P : Entry → Type 0) → ((n : ℕ) → is_open c n ≡ true → P (entry_for (object_at c n))) → (n : ℕ) → All P (entries_below c n)
  unfolding entries_below
  every_entry P f zero = tt
  every_entry P f (suc n) =
      let es = entries_below c n in
      by_test (All P (with_next c n es)) (is_open c n)
      (λ o. subst (All P) (sym (next_open n es (length_below n) o)) (all_append P es (entry_for (object_at c n) ∷ []) (every_entry P f n) (f n o, tt)))
      (λ o. subst (All P) (sym (next_shut n es o)) (every_entry P f n))

  -- below n, and ascending
  entries_lower : (n : ℕ) → All (λ (e : Entry). e.object < n) (entries_below c n)
  unfolding entries_below
  entries_lower zero = tt
  entries_lower (suc n) =
      let es = entries_below c n in
      let old = all_wider n es (entries_lower n) in
      by_test (All (λ (e : Entry). e.object < suc n) (with_next c n es)) (is_open c n)
      (λ o. subst (All (λ (e : Entry). e.object < suc n)) (sym (next_open n es (length_below n) o))
      (all_append (λ (e : Entry). e.object < suc n) es (entry_for (object_at c n) ∷ []) old
      ((let q = (open_place n o).1 in let z : (object_at c n).object < suc n = omega arith in z), tt)))
      (λ o. subst (All (λ (e : Entry). e.object < suc n)) (sym (next_shut n es o)) old)

  ascend_below : (n : ℕ) → ascend 0 (map (λ (e : Entry). e.object) (entries_below c n)) ≡ true
  unfolding entries_below ascend
  ascend_below zero = refl
  ascend_below (suc n) =
      let es = entries_below c n in
      by_test (ascend 0 (map (λ (e : Entry). e.object) (with_next c n es)) ≡ true) (is_open c n)
      (λ o. ap (λ (l : List Entry). ascend 0 (map (λ (e : Entry). e.object) l)) (next_open n es (length_below n) o)
      ∙ ascend_snoc n es (entry_for (object_at c n)) 0 (omega arith) (open_place n o).1 (entries_lower n) (ascend_below n))
      (λ o. ap (λ (l : List Entry). ascend 0 (map (λ (e : Entry). e.object) l)) (next_shut n es o) ∙ ascend_below n)

  -- the entries' objects ascend strictly
  pub entries_ascend : ascend 0 (map (λ (e : Entry). e.object) (entries_of c)) ≡ true
  unfolding entries_of
  entries_ascend = ascend_below objects

  -- each entry is that of an open object
  pub entries_only : All (λ (e : Entry). (is_open c e.object ≡ true) × (e ≡ entry_for (object_at c e.object))) (entries_of c)
  unfolding entries_of
  entries_only =
      every_entry (λ (e : Entry). (is_open c e.object ≡ true) × (e ≡ entry_for (object_at c e.object)))
      (λ n o. let q : n ≡ (object_at c n).object = sym (open_place n o).1 in
      (subst (λ (k : ℕ). is_open c k ≡ true) q o, ap (λ (k : ℕ). entry_for (object_at c k)) q))
      objects

  -- and each open object has its entry
  entry_below : (n k : ℕ) → k < n → is_open c k ≡ true → Stands (entry_for (object_at c k)) (entries_below c n)
  unfolding entries_below
  entry_below zero k h o = absurd (let z : ⊥ = omega arith in z)
  entry_below (suc n) k h o =
      let es = entries_below c n in
      by_test (Stands (entry_for (object_at c k)) (with_next c n es)) (eqb k n)
      (λ e. let q : k ≡ n = eqb-true k n e in
      let p : is_open c n ≡ true = subst (λ (i : ℕ). is_open c i ≡ true) q o in
      subst (Stands (entry_for (object_at c k))) (sym (next_open n es (length_below n) p))
      (subst (λ (i : ℕ). Stands (entry_for (object_at c i)) (es ++ (entry_for (object_at c n) ∷ []))) (sym q) (stands_last es (entry_for (object_at c n)))))
      (λ e. let r = entry_below n k (below_not k n h (eqb-false k n e)) o in
      by_test (Stands (entry_for (object_at c k)) (with_next c n es)) (is_open c n)
      (λ p. subst (Stands (entry_for (object_at c k))) (sym (next_open n es (length_below n) p))
      (stands_longer es (entry_for (object_at c n) ∷ []) (entry_for (object_at c k)) r))
      (λ p. subst (Stands (entry_for (object_at c k))) (sym (next_shut n es p)) r))

  open_known : (n : ℕ) → is_open c n ≡ true → n < objects
  open_known n o =
      let p = open_place n o in
      let q = (m.objects.opened (place_of c n) p.0).object_known in
      let r : (object_at c n).object < objects = q in
      omega (arith, p.1)

  pub entries_every : (n : ℕ) → is_open c n ≡ true → Stands (entry_for (object_at c n)) (entries_of c)
  unfolding entries_of
  entries_every n o = entry_below objects n (open_known n o) o

  -- an entry is one of them exactly when its object is open and it is that object's entry
  pub entries_open : (e : Entry)
      → (Stands e (entries_of c) → (is_open c e.object ≡ true) × (e ≡ entry_for (object_at c e.object)))
      × ((is_open c e.object ≡ true) × (e ≡ entry_for (object_at c e.object)) → Stands e (entries_of c))
  entries_open e = (
    (λ t. subst (λ (x : Entry). (is_open c x.object ≡ true) × (x ≡ entry_for (object_at c x.object))) t.2
        (all_at _ (entries_of c) t.0 t.1 entries_only)),
    λ t. subst (λ (x : Entry). Stands x (entries_of c)) (sym t.1) (entries_every e.object t.0),
  )
