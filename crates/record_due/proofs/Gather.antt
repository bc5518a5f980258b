-- What is due, on bytes: the next open object is the least number from `lo` on, and the entries are gathered by going from one to the next.
use mathlib.Core.Path.{◌≡◌, refl, sym, ap, ◌∙◌, subst}
use mathlib.Core.Bool.{true, false, ◌&&◌}
use mathlib.Core.List.{List, [], ◌∷◌, ◌++◌}
use Prim.Native.Nat.{ℕ, zero, suc, ◌+◌, ◌*◌, ◌-◌, ◌≤◌, ◌<◌}
use native.Mathlib.Omega.{arith}
use lib.Dec.{ltb}
use lib.ListN.{length, get_or, set, length-append}
use borrow.Author.Tests.{ltb-false, ltb-true, lt-ltb}
use Rattle.numbers.specs.Sizes.{objects as objectsEnd, most_open}
use Rattle.wire.specs.declared.Entry.{Entry}
use Rattle.coordinator.specs.declared.Object.{Object}
use Rattle.coordinator.specs.declared.Coordinator.{Coordinator}
use Rattle.coordinator.specs.System.{tree}
use Rattle.coordinator.specs.State.{no_object, place_of, object_at, is_open}
use Rattle.clauses.proofs.Parts.{by_test, on_cond}
use Rattle.clauses.proofs.Places.{at, place_open, place_shut}
use Rattle.due.specs.declared.Gathered.{Gathered}
use Rattle.due.specs.Gather.{Lists}
use Rattle.due.specs.Due.{entry_for, lists_next, with_next, entries_below, entries_of}
use Rattle.due.proofs.Gather as gather
use Rattle.due.proofs.Entries.{entries_count}
use Rattle.record.specs.Record.{object_of, objects_of, record_of, check}
use Rattle.record.proofs.Items.{get_d_items}
use Rattle.record.proofs.Kept.{checked_meets}

-- ---- the least number from lo on
-- no object of the first i places stands from lo up to m
abbrev pub Past : List ℕ → ℕ → ℕ → ℕ → Type 0
Past l lo m i = (j : ℕ) → j < i → lo ≤ get_or l (43 + 25 * j) 0 → m ≤ get_or l (43 + 25 * j) 0

stands_at : (l : List ℕ) (j : ℕ) → j < most_open → (at (record_of l).objects j).object ≡ get_or l (43 + 25 * j) 0
unfolding record_of objects_of object_of
stands_at l j h = ap (λ (x : Object). x.object) (get_d_items object_of 25 l no_object most_open 43 j h)

-- m stands at one of the first i places, if it is a number of an object
abbrev pub Stands : List ℕ → ℕ → ℕ → Type 0
Stands l m i = m < objectsEnd → (j : ℕ) × ((j < i) × (get_or l (43 + 25 * j) 0 ≡ m))

-- so it is open
pub stands_open : (l : List ℕ) → check l ≡ 0 → (m : ℕ) → Stands l m (record_of l).count → m < objectsEnd → is_open (record_of l) m ≡ true
stands_open l e m s h =
    let c = checked_meets l e in
    let n = (record_of l).count in
    let w = s h in
    let eight : length (record_of l).objects ≡ most_open = c.sizes.objects_8 in
    let few : n ≤ most_open = c.objects.eight_at_most in
    let j : ℕ = w.0 in
    let b : j < n = w.1.0 in
    let y : (at (record_of l).objects j).object ≡ m = stands_at l j (omega arith) ∙ w.1.1 in
    by_test (is_open (record_of l) m ≡ true) (is_open (record_of l) m) (λ o. o)
    (λ o. absurd (place_shut (record_of l).objects n m (ltb-false (place_of (record_of l) m) most_open o) (omega arith) j b (omega arith) y))

-- none is open between
pub shut_between : (l : List ℕ) (lo m : ℕ) → Past l lo m (record_of l).count → (n : ℕ) → lo ≤ n → n < m → is_open (record_of l) n ≡ false
shut_between l lo m p n a b =
    by_test (is_open (record_of l) n ≡ false) (is_open (record_of l) n)
    (λ o.
    let h : place_of (record_of l) n < most_open = ltb-true (place_of (record_of l) n) most_open o in
    let q = place_open (record_of l).objects (record_of l).count n h in
    let y : get_or l (43 + 25 * place_of (record_of l) n) 0 ≡ n = sym (stands_at l (place_of (record_of l) n) h) ∙ q.1.1 in
    let w : m ≤ get_or l (43 + 25 * place_of (record_of l) n) 0 = p (place_of (record_of l) n) q.0 (omega arith) in
    absurd (let z : ⊥ = omega arith in z))
    (λ o. o)

-- ---- the entries below a number
shut_same : (c : Coordinator) (n : ℕ) → is_open c n ≡ false → entries_below c (suc n) ≡ entries_below c n
unfolding entries_below with_next
shut_same c n o = simp o

quiet : (c : Coordinator) (lo j : ℕ) → ((n : ℕ) → lo ≤ n → n < lo + j → is_open c n ≡ false) → entries_below c (lo + j) ≡ entries_below c lo
quiet c lo zero f = ap (entries_below c) (let z : lo + 0 ≡ lo = omega arith in z)
quiet c lo (suc j) f =
    let z : lo + suc j ≡ suc (lo + j) = omega arith in
    ap (entries_below c) z ∙ shut_same c (lo + j) (f (lo + j) (omega arith) (omega arith)) ∙ quiet c lo j (λ n a b. f n a (omega arith))

-- where none is open between, they are the same
quiet_to : (c : Coordinator) (lo m : ℕ) → lo ≤ m → ((n : ℕ) → lo ≤ n → n < m → is_open c n ≡ false) → entries_below c lo ≡ entries_below c m
quiet_to c lo m h f =
    let z : lo + (m - lo) ≡ m = omega arith in
    sym (quiet c lo (m - lo) (λ n a b. f n a (omega arith))) ∙ ap (entries_below c) z

-- they only grow, and as many are the same
abbrev Grown : Coordinator → ℕ → List Entry → Type 0
Grown c lo es = (length (entries_below c lo) ≤ length es) × (length es ≤ length (entries_below c lo) → es ≡ entries_below c lo)

grown_next : (c : Coordinator) (lo n : ℕ) → Grown c lo (entries_below c n) → Grown c lo (entries_below c (suc n))
unfolding entries_below with_next
grown_next c lo n g =
    let es : List Entry = entries_below c n in
    let e : Entry = entry_for (object_at c n) in
    on_cond (Grown c lo) (lists_next c n es) (es ++ (e ∷ [])) es
    (λ t. let q = length-append es (e ∷ []) in let w = g.0 in (omega arith, λ h. absurd (let z : ⊥ = omega arith in z))) (λ t. g)

grown : (c : Coordinator) (lo j : ℕ) → Grown c lo (entries_below c (lo + j))
grown c lo zero =
    let z : lo ≡ lo + 0 = omega arith in
    subst (λ (n : ℕ). Grown c lo (entries_below c n)) z (omega arith, λ h. refl)
grown c lo (suc j) =
    let z : suc (lo + j) ≡ lo + suc j = omega arith in
    subst (λ (n : ℕ). Grown c lo (entries_below c n)) z (grown_next c lo (lo + j) (grown c lo j))

-- ---- the entries gathered
abbrev pub gathered : List Entry → ℕ → Gathered
gathered entries k = record { entries = entries; count = k }

pub gather_start : (c : Coordinator) (entries : List Entry) → Lists (gathered entries 0) (entries_below c 0)
gather_start c entries =
    subst (Lists (gathered entries 0)) (sym (gather.below_none c)) (record { same = refl; count = refl; room = omega arith })

module _ (c : Coordinator) (entries : List Entry) (k lo m : ℕ) (h : lo ≤ m) (f : (n : ℕ) → lo ≤ n → n < m → is_open c n ≡ false)
    (l : Lists (gathered entries k) (entries_below c lo)) where
  here : Lists (gathered entries k) (entries_below c m)
  here = subst (Lists (gathered entries k)) (quiet_to c lo m h f) l

  -- the next object is open
  pub gather_open : (p : ℕ) (e : Entry) → length entries ≡ most_open → k < most_open → p ≡ place_of c m → p < most_open
      → e ≡ entry_for (get_or c.objects p no_object)
      → Lists (gathered (set entries k e) (k + 1)) (entries_below c (m + 1))
  gather_open p e full small at fits same =
      let r : Gathered = gathered (set entries k e) (k + 1) in
      let es : List Entry = entries_below c m in
      let x : e ≡ entry_for (object_at c m) = same ∙ ap (λ (i : ℕ). entry_for (get_or c.objects i no_object)) at in
      let o : is_open c m ≡ true = lt-ltb (place_of c m) most_open (let z : place_of c m < most_open = omega arith in z) in
      let t : (is_open c m && ltb k most_open) ≡ true = simp (o, lt-ltb k most_open small) in
      subst (Lists r) (sym (gather.below_more c m))
      (gather.next_taken c m (gathered entries k) r es here t
      (subst (λ (y : Entry). Lists r (es ++ (y ∷ []))) x (gather.one_more (gathered entries k) e es full small here)))

  -- no more objects
  pub gather_end : objectsEnd ≤ m → m ≤ objectsEnd → Lists (gathered entries k) (entries_of c)
  unfolding entries_of
  gather_end a b = let e : m ≡ objectsEnd = omega arith in subst (λ (n : ℕ). Lists (gathered entries k) (entries_below c n)) e here

-- as many as are open: all of them
pub gather_full : (l : List ℕ) → check l ≡ 0 → (entries : List Entry) (k lo : ℕ) → lo ≤ objectsEnd → (record_of l).count ≤ k
    → Lists (gathered entries k) (entries_below (record_of l) lo) → Lists (gathered entries k) (entries_of (record_of l))
unfolding entries_of
gather_full l e entries k lo h n g =
    let c : Coordinator = record_of l in
    let z : lo + (objectsEnd - lo) ≡ objectsEnd = omega arith in
    let all : Grown c lo (entries_below c objectsEnd) = subst (λ (i : ℕ). Grown c lo (entries_below c i)) z (grown c lo (objectsEnd - lo)) in
    let many : length (entries_below c objectsEnd) ≡ c.count = entries_count tree c (checked_meets l e) in
    let these : k ≡ length (entries_below c lo) = g.count in
    subst (Lists (gathered entries k)) (sym (all.1 (omega arith))) g
