-- What the sums come to: votes that may be asked for before them may be asked for after them, and each object's new value is its sum.
use Rattle.std.proofs.Common.{◌≡◌, ℕ, zero, suc, ◌<◌, ◌≤◌, Bool, true, false, not, ◌&&◌, ◌||◌, T, eqb, ltb, ◌⊎◌, [], length, sym, refl, ap, ◌∙◌, subst, inl}
use Rattle.std.proofs.Common.{inr, ⊎_elim, arith, ltb-true, eq-eqb, eqb-true}
use borrow.Author.Tests.{eqb-false, not-false}
use Rattle.numbers.specs.Sizes.{nodes, most_open, highest}
use Rattle.mask.specs.Mask.{joined}
use Rattle.mask.proofs.Tests.{and_both, T_true}
use Rattle.quorum.specs.Nearest.{mask_of}
use Rattle.coordinator.specs.declared.Object.{Object}
use Rattle.coordinator.specs.declared.Coordinator.{Coordinator}
use Rattle.coordinator.specs.System.{System}
use Rattle.coordinator.specs.State.{open_phase, ready, settled, all_settled, any_used_up, step_of}
use Rattle.coordinator.specs.Calls.{with_objects, renewed, set_of, request_commit_refusals, request_commit_of}
use Rattle.coordinator.proofs.Refusals.{clear}
use Rattle.clauses.proofs.Parts.{by_test, neither_left, neither_right}
use Rattle.clauses.proofs.Places.{at, across_all, across_none, none_across}
use Rattle.clauses.proofs.Facts.{Meets}
use Rattle.clauses.proofs.Quorums.{Quorums}
use Rattle.clauses.proofs.Laws.{settled_each}
use Rattle.deeds.proofs.Number.{step_number}
use Rattle.increments.specs.Sums.{sum64}
use Rattle.increments.specs.Deeds.{ran, in_use, summing}
use Rattle.increments.proofs.Summed.{below, Alike, Renewed, sums_to, sum_of, sums_next, sums_partly, set_elsewhere, set_taken}

-- ---- an object with a new value is as settled, and as used up
settled_renewed : (s : System) (x y : Object) (v : ℕ) → Renewed x v y → T (ready s x) → (x.mode ≡ 0) ⊎ (x.given ≡ true) → T (settled s y)
settled_renewed s x y v r t g = ⊎_elim same fresh r
  where
    fine : (b : Bool) (z : Bool) → (b ≡ true) ⊎ (z ≡ true) → T (b || z)
    fine true z h = tt
    fine false z h = ⊎_elim (λ e. absurd (subst T (sym e) tt)) (λ e. subst T (sym e) tt) h

    same : y ≡ x → T (settled s y)
    same e =
        subst (λ (z : Object). T (settled s z)) (sym e)
        (and_both (ready s x) (eqb x.mode 0 || x.given) t (fine (eqb x.mode 0) x.given (⊎_elim (λ k. inl (eq-eqb x.mode 0 k)) inr g)))

    fresh : (x.mode ≡ 0 → ⊥) × (y ≡ renewed x v) → T (settled s y)
    fresh e =
        subst (λ (z : Object). T (settled s z)) (sym e.1)
        (and_both (ready s x) (eqb x.mode 0 || true) t (fine (eqb x.mode 0) true (inr refl)))

-- the test of one place
abbrev spent : ℕ → ℕ → Object → Bool
spent n i x = ltb i n && (not (eqb x.mode 0) && eqb x.version highest)

spent_renewed : (x y : Object) (n i v : ℕ) → Renewed x v y → spent n i y ≡ spent n i x
spent_renewed x y n i v r = ⊎_elim (ap (spent n i)) (λ e. ap (spent n i) e.1) r

-- a step that nothing refuses
stepped : (n a : ℕ) (c d : Coordinator) → n ≡ 0 → ((step_of n a c d).number ≡ 0) × ((step_of n a c d).answer ≡ a)
unfolding step_of
stepped n a c d e = let t : eqb n 0 ≡ true = eq-eqb n 0 e in (simp t, simp t)

module _ (s : System) (q : Quorums s) (c : Coordinator) (me : ℕ) (m : Meets s c) where
  -- the record after all sums
  abbrev d : Coordinator
  d = ran s c me (summing (in_use c) [])

  eight : length d.objects ≡ most_open
  eight = (sums_partly s q c me m c.count (omega arith)).meets.sizes.objects_8

  settled_still : all_settled s c.objects c.count ≡ true → all_settled s d.objects c.count ≡ true
  unfolding all_settled
  settled_still e =
      let p = sums_partly s q c me m c.count (omega arith) in
      T_true (all_settled s d.objects c.count)
      (across_all (λ (j : ℕ) (y : Object). not (ltb j c.count) || settled s y) d.objects
      (λ i h. by_test (T (not (ltb i c.count) || settled s (at d.objects i))) (ltb i c.count)
      (λ t. let k : i < c.count = ltb-true i c.count t in
      let w = settled_each s c.objects c.count i k (let a = m.sizes.objects_8 in let b = eight in omega arith) e in
      subst (λ (b : Bool). T (not b || settled s (at d.objects i))) (sym t)
      (settled_renewed s (at c.objects i) (at d.objects i) (sum_of (at c.objects i)) (p.sooner i k) w.0 w.1))
      (λ t. subst (λ (b : Bool). T (not b || settled s (at d.objects i))) (sym t) tt)))

  spent_still : any_used_up c.objects c.count ≡ false → any_used_up d.objects c.count ≡ false
  unfolding any_used_up
  spent_still e =
      let p = sums_partly s q c me m c.count (omega arith) in
      none_across (spent c.count) d.objects
      (λ i h. by_test (spent c.count i (at d.objects i) ≡ false) (ltb i c.count)
      (λ t. let k : i < c.count = ltb-true i c.count t in
      spent_renewed (at c.objects i) (at d.objects i) c.count i (sum_of (at c.objects i)) (p.sooner i k)
      ∙ across_none (spent c.count) c.objects e i (let a = m.sizes.objects_8 in let b = eight in omega arith))
      (λ t. simp t))

  -- ---- votes that may be asked for before the sums may be asked for after them, of the same participants
  -- what a request comes to where only the objects differ, all are settled and none is used up
  asked : (x : Coordinator) → Alike c x → all_settled s x.objects c.count ≡ true → any_used_up x.objects c.count ≡ false
      → (request_commit_of s c me).number ≡ 0
      → ((request_commit_of s x me).number ≡ 0) × ((request_commit_of s x me).answer ≡ joined (mask_of (s.nearest_write me c.live c.distances)) c.contacted)
  unfolding request_commit_of request_commit_refusals
  asked x alike settles unused e =
      let chosen = s.nearest_write me c.live c.distances in
      let k = clear (request_commit_refusals s c me chosen) tt (step_number _ _ _ _ ∙ e) in
      let some : eqb c.count 0 ≡ false = neither_left (eqb c.count 0) (not (all_settled s c.objects c.count)) k.1.1.0 in
      subst
      (λ (y : Coordinator).
      ((request_commit_of s y me).number ≡ 0) × ((request_commit_of s y me).answer ≡ joined (mask_of (s.nearest_write me c.live c.distances)) c.contacted))
      (sym alike) (stepped _ _ _ _ (simp (k.0, k.1.0, some, settles, k.1.1.1.0, unused)))

  pub summed_number : (request_commit_of s c me).number ≡ 0
      → ((request_commit_of s (ran s c me (summing (in_use c) [])) me).number ≡ 0)
      × ((request_commit_of s (ran s c me (summing (in_use c) [])) me).answer ≡ (request_commit_of s c me).answer)
  unfolding request_commit_of request_commit_refusals
  summed_number e =
      let chosen = s.nearest_write me c.live c.distances in
      let k = clear (request_commit_refusals s c me chosen) tt (step_number _ _ _ _ ∙ e) in
      let all : all_settled s c.objects c.count ≡ true =
      not-false (all_settled s c.objects c.count) (neither_right (eqb c.count 0) (not (all_settled s c.objects c.count)) k.1.1.0) in
      let unused : any_used_up c.objects c.count ≡ false = k.1.1.1.1.0 in
      let p = sums_partly s q c me m c.count (omega arith) in
      let after = asked d p.alike (settled_still all) (spent_still unused) e in
      (after.0, after.1 ∙ sym (asked c refl all unused e).1)

  -- ---- nothing but objects changes
  pub summed_rest : ran s c me (summing (in_use c) []) ≡ with_objects c c.contacted c.count (ran s c me (summing (in_use c) [])).objects
  summed_rest = (sums_partly s q c me m c.count (omega arith)).alike

  -- ---- a written object of an open transaction: its new value is the sum, and nothing else changes
  module _ (phase : c.phase ≡ open_phase) (known : me < nodes) (j : ℕ) (written : (at c.objects j).mode ≡ 0 → ⊥) where
    sums_new : (i : ℕ) → i ≤ c.count → j < i → at (sums_to s c me i).objects j ≡ renewed (at c.objects j) (sum_of (at c.objects j))
    sums_new zero h k = absurd (omega arith)
    sums_new (suc i) h k =
        let x = at c.objects i in
        let e = sums_to s c me i in
        let p = sums_partly s q c me m i (omega arith) in
        let here = p.later i (omega arith) in
        let same = ap (λ (b : Coordinator). b.count) p.alike in
        let next : sums_to s c me (suc i) ≡ (set_of e me (at e.objects i).object (sum_of x)).coordinator =
        sums_next s q c me m i (omega arith) ∙ ap (λ (y : Object). (set_of e me y.object (sum_of x)).coordinator) (sym here) in
        ap (λ (b : Coordinator). at b.objects j) next
        ∙ by_test (at (set_of e me (at e.objects i).object (sum_of x)).coordinator.objects j ≡ renewed (at c.objects j) (sum_of (at c.objects j)))
        (eqb j i)
        (λ b. subst
        (λ (n : ℕ). at (set_of e me (at e.objects i).object (sum_of x)).coordinator.objects n ≡ renewed (at c.objects n) (sum_of (at c.objects n)))
        (sym (eqb-true j i b))
        (set_taken s e me p.meets i (omega arith) (sum_of x) (ap (λ (b : Coordinator). b.phase) p.alike ∙ phase) known
        (λ z. written (ap (λ (n : ℕ). (at c.objects n).mode) (eqb-true j i b) ∙ sym (ap (λ (y : Object). y.mode) here) ∙ z))
        ∙ ap (λ (y : Object). renewed y (sum_of x)) here))
        (λ b. set_elsewhere s e me p.meets i (omega arith) (sum_of x) j (eqb-false j i b)
        ∙ sums_new i (omega arith) (let n = eqb-false j i b in below j i k n))

    pub summed_new : j < c.count
        → at (ran s c me (summing (in_use c) [])).objects j ≡ renewed (at c.objects j) (sum64 (at c.objects j).value (at c.objects j).new)
    summed_new h = sums_new c.count (omega arith) h
