-- A batch's deeds, and those of a request on it, tell what the record has after them. Each of a batch's calls is taken, and leaves its object as it was
-- given; of the sums those of written objects are taken, and each leaves its new value.
use mathlib.Core.Path.{◌≡◌, refl, sym, ap, ◌∙◌}
use mathlib.Core.Logic.{⊎_elim}
use mathlib.Core.Bool.{Bool, true, false, cond}
use mathlib.Core.List.{List, [], ◌∷◌, ◌++◌}
use Prim.Native.Nat.{ℕ, zero, suc, ◌<◌, ◌≤◌}
use native.Mathlib.Omega.{arith}
use lib.Dec.{eqb}
use lib.ListN.{length, take}
use lib.Seq.{take-suc, take-length}
use borrow.Author.Tests.{eqb-true, eqb-false, eq-eqb, ne_eqb}
use Rattle.numbers.specs.Sizes.{nodes, objects, most_open}
use Rattle.coordinator.specs.declared.Object.{Object}
use Rattle.coordinator.specs.declared.Coordinator.{Coordinator}
use Rattle.coordinator.specs.declared.BeginWith.{BeginWith}
use Rattle.coordinator.specs.System.{System}
use Rattle.coordinator.specs.State.{open_phase, no_object}
use Rattle.coordinator.specs.Calls.{set_of, renewed, request_commit_refusals, requested, request_commit_of, begin_of}
use Rattle.clauses.proofs.Parts.{by_test}
use Rattle.clauses.proofs.Places.{at}
use Rattle.clauses.proofs.Facts.{Meets}
use Rattle.clauses.proofs.Quorums.{Quorums}
use Rattle.clauses.proofs.Cases.{step_keeps}
use Rattle.replay.specs.Sheet.{begun_after, opened_after, valued_after}
use Rattle.increments.specs.Deeds.{begins, edits, values, asks, edit_of, deed_of, ran, Amount, adding, in_use, summing}
use Rattle.increments.proofs.Deeds.{adding_append, adding_last, summing_last}
use Rattle.increments.proofs.Added.{amount_at, as_added, adds_open, adds_set, added_count, added_object, added_meets}
use Rattle.increments.proofs.Summed.{sums_to, sum_of, sums_partly, set_number, set_refused}
use Rattle.increments.proofs.Laws.{summed_new}
use Rattle.telling.specs.Telling.{object_told, objects_told}
use Rattle.telling.proofs.Deeds.{tell_deed, kept_deed, kept_deeds, kept_append}

-- the last of some objects is told last
objects_last : (opens : Bool) (n : ℕ) (l : List Object) (x : Object) (s : List ℕ)
    → objects_told opens n (l ++ (x ∷ [])) s ≡ object_told opens n x (objects_told opens n l s)
unfolding objects_told
objects_last opens n [] x s = refl
objects_last opens n (y ∷ l) x s = objects_last opens n l x (object_told opens n y s)

next_object : (opens : Bool) (n : ℕ) (l : List Object) (i : ℕ) (s : List ℕ) → i < length l
    → objects_told opens n (take (suc i) l) s ≡ object_told opens n (at l i) (objects_told opens n (take i l) s)
next_object opens n l i s h = ap (λ (m : List Object). objects_told opens n m s) (take-suc l i no_object h) ∙ objects_last opens n (take i l) (at l i) s

-- ---- the amounts of a batch, on a transaction that has just begun
module _ (y : System) (q : Quorums y) (c : Coordinator) (n : ℕ) (m : Meets y c) (phase : c.phase ≡ open_phase) (known : n < nodes)
    (none : c.count ≡ 0) (l : List Amount) (few : length l ≤ most_open) (small : (j : ℕ) → j < length l → (amount_at l j).object < objects)
    (apart : (i j : ℕ) → i < length l → j < length l → (amount_at l i).object ≡ (amount_at l j).object → i ≡ j) (s : List ℕ) where
  abbrev d : Coordinator
  d = ran y c n (adding l [])

  -- an amount's object has been opened and has its grams
  told_amount : (a : Amount) (x : List ℕ)
      → object_told true n (as_added a.object a.grams) x ≡ valued_after (opened_after x n a.object 1) n a.object a.grams
  unfolding object_told
  told_amount a x = refl

  adds_tell : (i : ℕ) → i ≤ length l → kept_deeds y c n s (adding (take i l) []) ≡ objects_told true n (take i d.objects) s
  unfolding kept_deeds kept_deed tell_deed deed_of edit_of adding ran objects_told
  adds_tell zero h = refl
  adds_tell (suc i) h =
      let a = amount_at l i in
      let k : i < length l = omega (arith, h) in
      let e = adds_open y q c n m phase known none l few small apart i k in
      let f = adds_set y q c n m phase known none l few small apart i k in
      let long = (added_meets y q c n m phase known none l few small apart).sizes.objects_8 in
      ap (λ (b : List Amount). kept_deeds y c n s (adding b [])) (take-suc l i (record { object = 0; grams = 0 }) k)
      ∙ ap (kept_deeds y c n s) (adding_last (take i l) a [])
      ∙ simp (eq-eqb _ 0 e, eq-eqb _ 0 f) (
      ap (λ (x : List ℕ). valued_after (opened_after x n a.object 1) n a.object a.grams) (adds_tell i (omega (arith, h)))
      ∙ sym (told_amount a (objects_told true n (take i d.objects) s))
      ∙ ap (λ (x : Object). object_told true n x (objects_told true n (take i d.objects) s))
      (sym (added_object y q c n m phase known none l few small apart i k))
      ∙ sym (next_object true n d.objects i s (omega (arith, long, few, k))))

  pub batch_tells : kept_deeds y c n s (adding l []) ≡ objects_told true n (in_use (ran y c n (adding l []))) s
  batch_tells =
      ap (λ (b : List Amount). kept_deeds y c n s (adding b [])) (sym (take-length l)) ∙ adds_tell (length l) (omega arith)
      ∙ ap (λ (k : ℕ). objects_told true n (take k d.objects) s) (sym (added_count y q c n m phase known none l few small apart))

-- ---- the sums of a request
module _ (y : System) (q : Quorums y) (c : Coordinator) (n : ℕ) (m : Meets y c) (phase : c.phase ≡ open_phase) (known : n < nodes) (s : List ℕ) where
  abbrev f : Coordinator
  f = ran y c n (summing (in_use c) [])

  -- a sum tells what its object has after it
  module _ (i : ℕ) (h : i < c.count) (z : List ℕ) where
    abbrev x : Object
    x = at c.objects i

    abbrev e : Coordinator
    e = sums_to y c n i

    abbrev w : Object
    w = at f.objects i

    -- the object stands there as it was
    here : at e.objects i ≡ x
    here = (sums_partly y q c n m i (omega (arith, h))).later i (omega arith)

    inside : i < e.count
    inside = let k = ap (λ (b : Coordinator). b.count) (sums_partly y q c n m i (omega (arith, h))).alike in omega (arith, k, h)

    still_open : e.phase ≡ open_phase
    still_open = ap (λ (b : Coordinator). b.phase) (sums_partly y q c n m i (omega (arith, h))).alike ∙ phase

    sum_tells : kept_deed y e n (edits (values x.object (sum_of x))) z ≡ object_told false n w z
    unfolding kept_deed tell_deed deed_of edit_of object_told
    sum_tells = by_test _ (eqb x.mode 0) read written
      where
        number : (b : Object) → b ≡ x → (set_of e n b.object (sum_of x)).number ≡ (set_of e n x.object (sum_of x)).number
        number b k = ap (λ (a : Object). (set_of e n a.object (sum_of x)).number) k

        read : eqb x.mode 0 ≡ true
            → cond (eqb (set_of e n x.object (sum_of x)).number 0) (valued_after z n x.object (sum_of x)) z
            ≡ cond (eqb w.mode 0) z (valued_after z n w.object w.new)
        read t =
            let r = eqb-true x.mode 0 t in
            let p = (sums_partly y q c n m c.count (omega arith)).sooner i h in
            let same : w.mode ≡ 0 = ⊎_elim (λ (k : w ≡ x). ap (λ (a : Object). a.mode) k ∙ r) (λ k. absurd (k.0 r)) p in
            let no = set_refused y e n (sums_partly y q c n m i (omega (arith, h))).meets i inside (sum_of x) (ap (λ (a : Object). a.mode) here ∙ r) in
            simp (ne_eqb (set_of e n x.object (sum_of x)).number 0 (λ k. no (number _ here ∙ k)), eq-eqb w.mode 0 same)

        written : eqb x.mode 0 ≡ false
            → cond (eqb (set_of e n x.object (sum_of x)).number 0) (valued_after z n x.object (sum_of x)) z
            ≡ cond (eqb w.mode 0) z (valued_after z n w.object w.new)
        written t =
            let r = eqb-false x.mode 0 t in
            let p : w ≡ renewed x (sum_of x) = summed_new y q c n m phase known i r h in
            let yes = set_number y e n (sums_partly y q c n m i (omega (arith, h))).meets i inside (sum_of x) still_open known
            (λ k. r (sym (ap (λ (a : Object). a.mode) here) ∙ k)) in
            simp (eq-eqb (set_of e n x.object (sum_of x)).number 0 (sym (number _ here) ∙ yes))
            (sym (ap (λ (a : Object). cond (eqb a.mode 0) z (valued_after z n a.object a.new)) p ∙ simp t))

  sums_tell : (i : ℕ) → i ≤ c.count → kept_deeds y c n s (summing (take i c.objects) []) ≡ objects_told false n (take i f.objects) s
  unfolding kept_deeds ran summing objects_told
  sums_tell zero h = refl
  sums_tell (suc i) h =
      let x = at c.objects i in
      let long = m.sizes.objects_8 in
      let eight = m.objects.eight_at_most in
      let after = (sums_partly y q c n m c.count (omega arith)).meets.sizes.objects_8 in
      ap (λ (b : List Object). kept_deeds y c n s (summing b [])) (take-suc c.objects i no_object (omega (arith, long, eight, h)))
      ∙ ap (kept_deeds y c n s) (summing_last (take i c.objects) x [])
      ∙ ap (kept_deed y (sums_to y c n i) n (edits (values x.object (sum_of x)))) (sums_tell i (omega (arith, h)))
      ∙ sum_tells i (omega (arith, h)) (objects_told false n (take i f.objects) s)
      ∙ sym (next_object false n f.objects i s (omega (arith, after, eight, h)))

  -- a request leaves the objects, and tells nothing itself
  asked_same : (b : Coordinator) → in_use (request_commit_of y b n).coordinator ≡ in_use b
  unfolding request_commit_of request_commit_refusals requested
  asked_same b =
      let chosen = y.nearest_write n b.live b.distances in
      step_keeps (λ (a : Coordinator). in_use a ≡ in_use b) (request_commit_refusals y b n chosen) _ b _ tt refl (λ k. refl)

  asks_tell : (b : Coordinator) (z : List ℕ) → kept_deed y b n asks z ≡ z
  unfolding kept_deed tell_deed deed_of
  asks_tell b z = by_test _ (eqb (request_commit_of y b n).number 0) (λ t. simp t) (λ t. simp t)

  pub request_tells : kept_deeds y c n s (asks ∷ summing (in_use c) []) ≡ objects_told false n (in_use (ran y c n (asks ∷ summing (in_use c) []))) s
  unfolding kept_deeds ran deed_of
  request_tells =
      let alike = (sums_partly y q c n m c.count (omega arith)).alike in
      let count : f.count ≡ c.count = ap (λ (b : Coordinator). b.count) alike in
      asks_tell f _ ∙ sums_tell c.count (omega arith)
      ∙ ap (λ (k : ℕ). objects_told false n (take k f.objects) s) (sym count)
      ∙ ap (λ (a : List Object). objects_told false n a s) (sym (asked_same f))

-- ---- a batch from its begin
module _ (y : System) (c : Coordinator) (n : ℕ) (w : BeginWith) (l : List Amount) (s : List ℕ) (taken : (begin_of y c n w).number ≡ 0) where
  begun_told : kept_deeds y c n s (begins w ∷ []) ≡ begun_after s n
  unfolding kept_deeds kept_deed tell_deed deed_of ran
  begun_told = simp (eq-eqb _ 0 taken)

  pub from_begin : kept_deeds y c n s (adding l (begins w ∷ [])) ≡ kept_deeds y (begin_of y c n w).coordinator n (begun_after s n) (adding l [])
  unfolding ran deed_of
  from_begin =
      ap (kept_deeds y c n s) (adding_append l (begins w ∷ [])) ∙ kept_append y c n s (adding l []) (begins w ∷ [])
      ∙ ap (λ (z : List ℕ). kept_deeds y (begin_of y c n w).coordinator n z (adding l [])) begun_told
