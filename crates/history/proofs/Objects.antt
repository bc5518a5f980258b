-- What a record has of each object after one place is set, the object's own or the next free one: that object is as set, the others are as they were.
use mathlib.Core.Path.{◌≡◌, refl, sym, ◌∙◌, ap, subst}
use mathlib.Core.Logic.{◌≢◌, by_cases}
use mathlib.Core.Bool.{Bool, true, false}
use mathlib.Core.List.{List}
use Prim.Native.Nat.{ℕ, ◌<◌, ◌≤◌}
use native.Mathlib.Decide.{ℕ_discrete}
use native.Mathlib.Omega.{arith}
use lib.Dec.{ltb}
use lib.ListN.{length, get_or, set, get_or-eq_default}
use lib.Seq.{get_or-set_same, get_or-set_other}
use borrow.Author.Tests.{ltb-true, ltb-false, lt-ltb}
use Rattle.numbers.specs.Sizes.{most_open}
use Rattle.coordinator.specs.declared.Object.{Object}
use Rattle.coordinator.specs.declared.Coordinator.{Coordinator}
use Rattle.coordinator.specs.System.{System}
use Rattle.coordinator.specs.State.{idle_phase, no_object, place_in, object_at, is_open, ready}
use Rattle.clauses.proofs.Facts.{Meets}
use Rattle.clauses.proofs.Places.{at, Once, place_open, place_shut, place_at}
use Rattle.history.specs.Claims.{Shows}
use Rattle.history.proofs.Sim.{mode_of, contents_of}

-- the objects of a record, and what its clauses say of them
pub record Listed (objects : List Object) (count : ℕ) : Type 0 where
  pub size : length objects ≡ most_open
  pub few : count ≤ most_open
  pub once : Once objects count

abbrev pub open_in : List Object → ℕ → ℕ → Bool
open_in l n t = ltb (place_in l n t) most_open

abbrev pub object_in : List Object → ℕ → ℕ → Object
object_in l n t = get_or l (place_in l n t) no_object

module _ (l : List Object) (n : ℕ) (k : Listed l n) where
  -- an object that stands at a place
  pub stands_open : (i t : ℕ) → i < n → (at l i).object ≡ t → open_in l n t ≡ true
  stands_open i t h e =
      let p = sym (ap (place_in l n) e) ∙ place_at l n k.size k.few k.once i h in lt-ltb (place_in l n t) most_open (omega (arith, p, k.few))

  pub stands_at : (i t : ℕ) → i < n → (at l i).object ≡ t → object_in l n t ≡ at l i
  stands_at i t h e = ap (at l) (sym (ap (place_in l n) e) ∙ place_at l n k.size k.few k.once i h)

  -- one that is not open
  pub shut_blank : (t : ℕ) → open_in l n t ≡ false → object_in l n t ≡ no_object
  shut_blank t e =
      let past : length l ≤ place_in l n t = omega (arith, ltb-false (place_in l n t) most_open e, k.size) in get_or-eq_default l no_object past

  pub shut_nowhere : (t : ℕ) → open_in l n t ≡ false → (j : ℕ) → j < n → (at l j).object ≡ t → ⊥
  shut_nowhere t e j h = place_shut l n t (ltb-false (place_in l n t) most_open e) (omega (arith, k.size)) j h (omega (arith, k.few, k.size))

-- a list with x, whose object is t, at place p: below the count where t stands, or at the count
module _ (l : List Object) (n m p : ℕ) (x : Object) (k : Listed l n) (k' : Listed (set l p x) m) (inside : p < m)
    (grows : (i : ℕ) → i < n → i < m) (only-p : (i : ℕ) → i < m → (i ≡ p → ⊥) → i < n) (replaces : p < n → (at l p).object ≡ x.object) where
  fits : p < length l
  fits = omega (arith, k.size, k'.few, inside)

  here : at (set l p x) p ≡ x
  here = get_or-set_same l p x no_object fits

  else : (i : ℕ) → (i ≡ p → ⊥) → at (set l p x) i ≡ at l i
  else i e = get_or-set_other l p i x no_object e

  pub set_open : open_in (set l p x) m x.object ≡ true
  set_open = stands_open (set l p x) m k' p x.object inside (ap (λ (y : Object). y.object) here)

  pub set_object : object_in (set l p x) m x.object ≡ x
  set_object = stands_at (set l p x) m k' p x.object inside (ap (λ (y : Object). y.object) here) ∙ here

  -- another object
  module _ (u : ℕ) (other : u ≡ x.object → ⊥) where
    -- its place was not p
    not_here : (i : ℕ) → i < n → (at l i).object ≡ u → i ≡ p → ⊥
    not_here i h e q =
        other (sym e ∙ ap (λ (j : ℕ). (at l j).object) q ∙ replaces (omega (arith, h, q)))

    as_before : (b : Bool) → open_in l n u ≡ b → (open_in (set l p x) m u ≡ b) × (object_in (set l p x) m u ≡ object_in l n u)
    as_before true e =
        let z = place_open l n u (ltb-true (place_in l n u) most_open e) in
        let i = place_in l n u in
        let q = else i (not_here i z.0 z.1.1) in
        let f = ap (λ (y : Object). y.object) q ∙ z.1.1 in
        (stands_open (set l p x) m k' i u (grows i z.0) f, stands_at (set l p x) m k' i u (grows i z.0) f ∙ q)
    as_before false e =
        let f = still_shut (open_in (set l p x) m u) refl in (f, shut_blank (set l p x) m k' u f ∙ sym (shut_blank l n k u e))
      where
        still_shut : (b : Bool) → open_in (set l p x) m u ≡ b → open_in (set l p x) m u ≡ false
        still_shut false g = g
        still_shut true g =
            let z = place_open (set l p x) m u (ltb-true (place_in (set l p x) m u) most_open g) in
            let j = place_in (set l p x) m u in
            absurd (by_cases (ℕ_discrete j p)
            (λ q. other (sym z.1.1 ∙ ap (λ (y : Object). y.object) (ap (at (set l p x)) q ∙ here)))
            (λ q. shut_nowhere l n k u e j (only-p j z.0 q) (sym (ap (λ (y : Object). y.object) (else j q)) ∙ z.1.1)))

    pub else_open : open_in (set l p x) m u ≡ open_in l n u
    else_open = (as_before (open_in l n u) refl).0

    pub else_object : object_in (set l p x) m u ≡ object_in l n u
    else_object = (as_before (open_in l n u) refl).1

-- ---- a record
pub listed_of : {s : System} (c : Coordinator) → Meets s c → Listed c.objects c.count
listed_of c m = record { size = m.sizes.objects_8; few = m.objects.eight_at_most; once = m.objects.once }

-- c' is c with x at place i: the place where x's object stands, or the next free one
pub record OneSet (c c' : Coordinator) (i : ℕ) (x : Object) : Type 0 where
  pub same_serial : c'.serial ≡ c.serial
  pub same_phase : c'.phase ≡ c.phase
  pub objects : c'.objects ≡ set c.objects i x
  pub inside : i < c'.count
  pub grows : c.count ≤ c'.count
  pub only_there : (j : ℕ) → j < c'.count → (j ≡ i → ⊥) → j < c.count
  pub replaces : i < c.count → (at c.objects i).object ≡ x.object

module _ {s : System} (c c' : Coordinator) (i : ℕ) (x : Object) (k : OneSet c c' i x) (m : Meets s c) (m' : Meets s c') where
  abbrev new : List Object
  new = set c.objects i x

  listed' : Listed new c'.count
  listed' = subst (λ (l : List Object). Listed l c'.count) k.objects (listed_of c' m')

  bound : (j : ℕ) → j < c.count → j < c'.count
  bound j h = omega (arith, k.grows, h)

  open_as : (u : ℕ) → is_open c' u ≡ open_in new c'.count u
  open_as u = ap (λ (l : List Object). open_in l c'.count u) k.objects

  object_as : (u : ℕ) → object_at c' u ≡ object_in new c'.count u
  object_as u = ap (λ (l : List Object). object_in l c'.count u) k.objects

  pub its_open : is_open c' x.object ≡ true
  its_open = open_as x.object
      ∙ set_open c.objects c.count c'.count i x (listed_of c m) listed' k.inside bound k.only_there k.replaces

  pub its_object : object_at c' x.object ≡ x
  its_object = object_as x.object
      ∙ set_object c.objects c.count c'.count i x (listed_of c m) listed' k.inside bound k.only_there k.replaces

  pub its_mode : (contents_of c').mode x.object ≡ mode_of x.mode
  its_mode = rw (its_open, its_object)

  pub set_shown : (v : ℕ) → c.phase ≢ idle_phase → ready s x ≡ true → x.value ≡ v → Shows s c' c.serial x.object v
  set_shown v q r e = record {
    begun = λ z. q (sym k.same_phase ∙ z);
    present = k.same_serial;
    opened = its_open;
    is_ready = ap (ready s) its_object ∙ r;
    value = ap (λ (y : Object). y.value) its_object ∙ e;
  }

  module _ (u : ℕ) where
    pub other_open_lem : (u ≡ x.object → ⊥) → is_open c' u ≡ is_open c u
    other_open_lem e = open_as u
        ∙ else_open c.objects c.count c'.count i x (listed_of c m) listed' k.inside bound k.only_there k.replaces u e

    pub other_object : (u ≡ x.object → ⊥) → object_at c' u ≡ object_at c u
    other_object e = object_as u
        ∙ else_object c.objects c.count c'.count i x (listed_of c m) listed' k.inside bound k.only_there k.replaces u e

    pub other_mode : (u ≡ x.object → ⊥) → (contents_of c').mode u ≡ (contents_of c).mode u
    other_mode e = rw (other_open_lem e, other_object e)

    -- what another object shows, it still shows
    pub others_shown : (v : ℕ) → (u ≡ x.object → ⊥) → Shows s c c.serial u v → Shows s c' c.serial u v
    others_shown v e f = record {
      begun = λ z. f.begun (sym k.same_phase ∙ z);
      present = k.same_serial;
      opened = other_open_lem e ∙ f.opened;
      is_ready = ap (ready s) (other_object e) ∙ f.is_ready;
      value = ap (λ (y : Object). y.value) (other_object e) ∙ f.value;
    }
