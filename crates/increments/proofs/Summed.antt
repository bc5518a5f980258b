-- The sums of a record's objects, one after the other: each is set where its object stands, and the places behind it are as they were.
use Rattle.std.proofs.Common.{◌≡◌, ℕ, zero, suc, ◌<◌, ◌≤◌, true, false, not, eqb, ltb, ◌⊎◌, List, [], length, take, set, sym, refl, ap, ◌∙◌, subst, inl, inr}
use Rattle.std.proofs.Common.{arith, get_or-set_other, take-suc, get_or-set_same, lt-ltb, eq-eqb, ne_eqb, eqb-true}
use borrow.Author.Tests.{eqb-false}
use Rattle.numbers.specs.Sizes.{nodes, most_open}
use Rattle.numbers.specs.Refusal.{first_of}
use Rattle.coordinator.specs.declared.Object.{Object}
use Rattle.coordinator.specs.declared.Coordinator.{Coordinator}
use Rattle.coordinator.specs.System.{System}
use Rattle.coordinator.specs.State.{open_phase, no_object, place_of, object_at, is_open}
use Rattle.coordinator.specs.Calls.{with_objects, renewed, set_refusals, with_new, set_of}
use Rattle.coordinator.proofs.Refusals.{clear}
use Rattle.coordinator.proofs.Theorems.{taken_after}
use Rattle.clauses.proofs.Parts.{by_test, neither_right}
use Rattle.clauses.proofs.Places.{at, place_at}
use Rattle.clauses.proofs.Facts.{Meets}
use Rattle.clauses.proofs.Quorums.{Quorums}
use Rattle.clauses.proofs.Cases.{step_keeps}
use Rattle.clauses.proofs.Keep.{set_keeps}
use Rattle.deeds.proofs.Number.{step_number}
use Rattle.increments.specs.Sums.{sum64}
use Rattle.increments.specs.Deeds.{ran, deed_of, edit_of, summing}
use Rattle.increments.proofs.Deeds.{summing_last}

pub below : (j i : ℕ) → j < suc i → (j ≡ i → ⊥) → j < i
below j i k n = omega arith

-- the same record but for its objects
abbrev pub Alike : Coordinator → Coordinator → Type 0
Alike c d = d ≡ with_objects c c.contacted c.count d.objects

-- an object as it was, or, if it is written, with a new value
abbrev pub Renewed : Object → ℕ → Object → Type 0
Renewed x v y = (y ≡ x) ⊎ ((x.mode ≡ 0 → ⊥) × (y ≡ renewed x v))

-- ---- one value set for the object at a place
module _ (s : System) (c : Coordinator) (me : ℕ) (m : Meets s c) (i : ℕ) (h : i < c.count) (v : ℕ) where
  abbrev t : ℕ
  t = (at c.objects i).object

  placed : place_of c t ≡ i
  placed = place_at c.objects c.count m.sizes.objects_8 m.objects.eight_at_most m.objects.once i h

  pub set_alike : Alike c (set_of c me t v).coordinator
  unfolding set_of set_refusals with_new
  set_alike = step_keeps (Alike c) (set_refusals c me t) 0 c (with_new c t v) tt refl (λ k. refl)

  found_here : object_at c t ≡ at c.objects i
  found_here = ap (at c.objects) placed

  put_here : at (with_new c t v).objects i ≡ renewed (at c.objects i) v
  unfolding with_new
  put_here =
      let n : i < length c.objects = (let a = m.sizes.objects_8 in let b = m.objects.eight_at_most in omega arith) in
      ap (λ (p : ℕ). at (set c.objects p (renewed (at c.objects p) v)) i) placed ∙ get_or-set_same c.objects i _ no_object n

  pub set_here : Renewed (at c.objects i) v (at (set_of c me t v).coordinator.objects i)
  unfolding set_of set_refusals
  set_here =
      step_keeps (λ (d : Coordinator). Renewed (at c.objects i) v (at d.objects i)) (set_refusals c me t) 0 c (with_new c t v) tt (inl refl)
      (λ k. let written = eqb-false (object_at c t).mode 0 (neither_right (not (is_open c t)) (eqb (object_at c t).mode 0) k.1.1.0) in
      inr (λ e. written (ap (λ (y : Object). y.mode) found_here ∙ e), put_here))

  -- of a written object of an open transaction it is taken
  pub set_number : c.phase ≡ open_phase → me < nodes → ((at c.objects i).mode ≡ 0 → ⊥) → (set_of c me (at c.objects i).object v).number ≡ 0
  unfolding set_of set_refusals
  set_number phase known written =
      let a : ltb me nodes ≡ true = lt-ltb me nodes known in
      let b : eqb c.phase open_phase ≡ true = eq-eqb c.phase open_phase phase in
      let o : is_open c t ≡ true = lt-ltb (place_of c t) most_open (let p = placed in let k = m.objects.eight_at_most in omega arith) in
      let w : eqb (object_at c t).mode 0 ≡ false = ne_eqb (object_at c t).mode 0 (λ e. written (sym (ap (λ (y : Object). y.mode) found_here) ∙ e)) in
      let n : first_of (set_refusals c me t) ≡ 0 = simp (a, b, o, w) in
      sym (step_number _ 0 c (with_new c t v)) ∙ n

  pub set_taken : c.phase ≡ open_phase → me < nodes → ((at c.objects i).mode ≡ 0 → ⊥)
      → at (set_of c me t v).coordinator.objects i ≡ renewed (at c.objects i) v
  unfolding set_of set_refusals
  set_taken phase known written =
      ap (λ (x : Coordinator). at x.objects i)
      (taken_after (first_of (set_refusals c me t)) 0 c (with_new c t v) (set_number phase known written)) ∙ put_here

  -- of one that is read it is not
  pub set_refused : (at c.objects i).mode ≡ 0 → (set_of c me (at c.objects i).object v).number ≡ 0 → ⊥
  unfolding set_of set_refusals
  set_refused e z =
      let k = clear (set_refusals c me t) tt (step_number _ 0 c (with_new c t v) ∙ z) in
      eqb-false (object_at c t).mode 0 (neither_right (not (is_open c t)) (eqb (object_at c t).mode 0) k.1.1.0)
      (ap (λ (y : Object). y.mode) found_here ∙ e)

  pub set_elsewhere : (j : ℕ) → (j ≡ i → ⊥) → at (set_of c me t v).coordinator.objects j ≡ at c.objects j
  unfolding set_of set_refusals with_new
  set_elsewhere j n =
      step_keeps (λ (d : Coordinator). at d.objects j ≡ at c.objects j) (set_refusals c me t) 0 c (with_new c t v) tt refl
      (λ k. get_or-set_other c.objects (place_of c t) j (renewed (object_at c t) v) no_object (λ e. n (e ∙ placed)))

-- ---- the first i of them
abbrev pub sums_to : System → Coordinator → ℕ → ℕ → Coordinator
sums_to s c me i = ran s c me (summing (take i c.objects) [])

abbrev pub sum_of : Object → ℕ
sum_of x = sum64 x.value x.new

pub record Partly (s : System) (c : Coordinator) (d : Coordinator) (i : ℕ) : Type 0 where
  pub meets : Meets s d
  pub alike : Alike c d
  pub sooner : (j : ℕ) → j < i → Renewed (at c.objects j) (sum_of (at c.objects j)) (at d.objects j)
  pub later : (j : ℕ) → i ≤ j → at d.objects j ≡ at c.objects j

module _ (s : System) (q : Quorums s) (c : Coordinator) (me : ℕ) (m : Meets s c) where
  -- the next is the value call of the object that stands there
  pub sums_next : (i : ℕ) → i < c.count
      → sums_to s c me (suc i) ≡ (set_of (sums_to s c me i) me (at c.objects i).object (sum_of (at c.objects i))).coordinator
  unfolding ran deed_of edit_of
  sums_next i h =
      let x = at c.objects i in
      let n : i < length c.objects = (let a = m.sizes.objects_8 in let b = m.objects.eight_at_most in omega arith) in
      ap (λ (l : List Object). ran s c me (summing l [])) (take-suc c.objects i no_object n)
      ∙ ap (ran s c me) (summing_last (take i c.objects) x [])

  module _ (i : ℕ) (d : Coordinator) (h : i < c.count) (p : Partly s c d i) where
    abbrev v : ℕ
    v = sum_of (at c.objects i)

    abbrev e : Coordinator
    e = (set_of d me (at d.objects i).object (sum_of (at c.objects i))).coordinator

    inside : i < d.count
    inside = let k : d.count ≡ c.count = ap (λ (x : Coordinator). x.count) p.alike in omega arith

    here : at d.objects i ≡ at c.objects i
    here = p.later i (omega arith)

    sooner_next : (j : ℕ) → j < suc i → Renewed (at c.objects j) (sum_of (at c.objects j)) (at e.objects j)
    sooner_next j k =
        by_test (Renewed (at c.objects j) (sum_of (at c.objects j)) (at e.objects j)) (eqb j i)
        (λ b. subst (λ (n : ℕ). Renewed (at c.objects n) (sum_of (at c.objects n)) (at e.objects n)) (sym (eqb-true j i b))
        (subst (λ (x : Object). Renewed x v (at e.objects i)) here (set_here s d me p.meets i inside v)))
        (λ b. let n = eqb-false j i b in
        let less : j < i = below j i k n in
        subst (Renewed (at c.objects j) (sum_of (at c.objects j))) (sym (set_elsewhere s d me p.meets i inside v j n)) (p.sooner j less))

    step_partly : Partly s c (set_of d me (at d.objects i).object (sum_of (at c.objects i))).coordinator (suc i)
    step_partly =
        record {
          meets = set_keeps s q d me p.meets (at d.objects i).object v;
          alike = set_alike s d me p.meets i inside v ∙ ap (λ (x : Coordinator). with_objects x x.contacted x.count e.objects) p.alike;
          sooner = sooner_next;
          later = λ j k. set_elsewhere s d me p.meets i inside v j (λ b. omega arith) ∙ p.later j (omega arith);
        }

    next_partly : Partly s c (set_of d me (at c.objects i).object (sum_of (at c.objects i))).coordinator (suc i)
    next_partly =
        subst (λ (n : ℕ). Partly s c (set_of d me n (sum_of (at c.objects i))).coordinator (suc i)) (ap (λ (x : Object). x.object) here) step_partly

  pub sums_partly : (i : ℕ) → i ≤ c.count → Partly s c (sums_to s c me i) i
  unfolding ran summing
  sums_partly zero h = record { meets = m; alike = refl; sooner = λ j k. absurd (omega arith); later = λ j k. refl }
  sums_partly (suc i) h =
      subst (λ (d : Coordinator). Partly s c d (suc i)) (sym (sums_next i (omega arith)))
      (next_partly i (sums_to s c me i) (omega arith) (sums_partly i (omega arith)))
