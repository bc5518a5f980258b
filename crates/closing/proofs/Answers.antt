-- `at rest` and `settled` say what is so of the station that the buffers are, and nothing else.
use mathlib.Core.Path.{◌≡◌, sym, ap, subst, ◌∙◌}
use mathlib.Core.Bool.{Bool, true, false, not, ◌&&◌, ◌||◌}
use mathlib.Core.List.{List}
use Prim.Native.Nat.{ℕ, ◌<◌}
use lib.Dec.{T, eqb, eqb→eq, T_not, not_T}
use lib.ListN.{length}
use borrow.Author.Tests.{lt-ltb}
use Rattle.numbers.specs.Sizes.{nodes}
use Rattle.mask.specs.Mask.{contains}
use Rattle.mask.proofs.Tests.{and_both, and_left, and_right, or_cases, T_true}
use Rattle.image.specs.Layout.{state, serial}
use Rattle.image.specs.Valid.{held}
use Rattle.image.proofs.Each.{each_at, each_all}
use Rattle.clauses.proofs.Parts.{eq-T, true-T}
use Rattle.coordinator.specs.declared.Coordinator.{Coordinator}
use Rattle.record.specs.Record.{record_of}
use Rattle.steps.specs.Station.{Station, Quiescent}
use Rattle.buffers.specs.Buffers.{Buffers, images_size, records_size, image_at, record_at, image_in, record_in, station_of}
use Rattle.closing.specs.State.{idle_at, all_idle, at_rest, holds, holds_at, released_at, released, decided, settled_with, settled_at, all_settled, settled}
use Rattle.closing.specs.Meaning.{Holding, Released}

-- a node's parts are what the station has
pub record_in_lem : (l : List ℕ) (n : ℕ) → n < nodes → record_in l n ≡ record_of (record_at l n)
unfolding record_in
record_in_lem l n h = simp (lt-ltb n nodes h)

pub image_in_lem : (l : List ℕ) (n : ℕ) → n < nodes → image_in l n ≡ image_at l n
unfolding image_in
image_in_lem l n h = simp (lt-ltb n nodes h)

module _ (b : Buffers) where
  abbrev st : Station
  st = station_of b

  abbrev record_of_lem : ℕ → Coordinator
  record_of_lem n = record_of (record_at b.records n)

  -- ---- at rest
  pub rest_says : at_rest b.records ≡ true → Quiescent st
  unfolding at_rest all_idle idle_at
  rest_says e n h =
      let t = each_at (idle_at b.records) nodes (and_right (eqb (length b.records) records_size) _ (true-T _ e)) n h in
      ap (λ (c : Coordinator). c.phase) (record_in_lem b.records n h) ∙ eqb→eq _ 0 t

  pub rest_said : length b.records ≡ records_size → Quiescent st → at_rest b.records ≡ true
  unfolding at_rest all_idle idle_at
  rest_said e q = T_true _ (and_both (eqb (length b.records) records_size) _ (eq-T _ _ e)
      (each_all (idle_at b.records) nodes (λ n h. eq-T _ 0 (sym (ap (λ (c : Coordinator). c.phase) (record_in_lem b.records n h)) ∙ q n h))))

  -- ---- settled
  holds_at_lem : (n o s : ℕ) → n < nodes → Holding (st.images n) o s → T (holds_at b.images n o s)
  unfolding holds_at holds
  holds_at_lem n o s h z =
      let e = image_in_lem b.images n h in
      and_both (eqb (state (image_at b.images n) o) held) (eqb (serial (image_at b.images n) o) s)
      (eq-T _ held (sym (ap (λ (l : List ℕ). state l o) e) ∙ z.is_held)) (eq-T _ s (sym (ap (λ (l : List ℕ). serial l o) e) ∙ z.of_serial))

  at_holds : (n o s : ℕ) → n < nodes → T (holds_at b.images n o s) → Holding (st.images n) o s
  unfolding holds_at holds
  at_holds n o s h t =
      let e = image_in_lem b.images n h in
      let m = image_at b.images n in
      record {
        is_held = ap (λ (l : List ℕ). state l o) e ∙ eqb→eq _ held (and_left (eqb (state m o) held) (eqb (serial m o) s) t);
        of_serial = ap (λ (l : List ℕ). serial l o) e ∙ eqb→eq _ s (and_right (eqb (state m o) held) (eqb (serial m o) s) t);
      }

  -- an owner's record, as the buffer has it
  abbrev Free : Coordinator → ℕ → Type 0
  Free c o = (n : ℕ) → n < nodes → c.phase ≡ 3 → c.outcome ≡ 1 → contains c.participants n ≡ true → Holding (st.images n) o c.serial → ⊥

  with_free : (c : Coordinator) (o : ℕ) → T (settled_with b.images c o) → Free c o
  unfolding settled_with decided released
  with_free c o t n h p q i z =
      or_cases ⊥ (not (decided c)) (released b.images c.participants o c.serial)
      (λ a. T_not (decided c) a (and_both (eqb c.phase 3) (eqb c.outcome 1) (eq-T _ 3 p) (eq-T _ 1 q)))
      (λ a. T_not (contains c.participants n && holds_at b.images n o c.serial)
      (each_at (released_at b.images c.participants o c.serial) nodes a n h)
      (and_both (contains c.participants n) _ (true-T _ i) (holds_at_lem n o c.serial h z)))
      t

  free_with : (c : Coordinator) (o : ℕ) → Free c o → T (settled_with b.images c o)
  unfolding settled_with decided released
  free_with c o f = by (decided c) (λ t. eqb→eq _ 3 (and_left (eqb c.phase 3) (eqb c.outcome 1) t))
      (λ t. eqb→eq _ 1 (and_right (eqb c.phase 3) (eqb c.outcome 1) t))
    where
      by : (d : Bool) → (T d → c.phase ≡ 3) → (T d → c.outcome ≡ 1) → T (not d || released b.images c.participants o c.serial)
      by true p q = each_all (released_at b.images c.participants o c.serial) nodes
          (λ n h. not_T (contains c.participants n && holds_at b.images n o c.serial)
          (λ t. f n h (p tt) (q tt) (T_true _ (and_left (contains c.participants n) _ t))
          (at_holds n o c.serial h (and_right (contains c.participants n) _ t))))
      by false p q = tt

  pub settled_says : settled b.images b.records ≡ true → Released st
  unfolding settled all_settled settled_at
  settled_says e o n small h =
      let t = each_at (settled_at b.images b.records) nodes
      (and_right (eqb (length b.images) images_size && eqb (length b.records) records_size) _ (true-T _ e)) o small in
      subst (λ (c : Coordinator). c.phase ≡ 3 → c.outcome ≡ 1 → contains c.participants n ≡ true → Holding (st.images n) o c.serial → ⊥)
      (sym (record_in_lem b.records o small)) (with_free (record_of_lem o) o t n h)

  pub settled_said : length b.images ≡ images_size → length b.records ≡ records_size → Released st → settled b.images b.records ≡ true
  unfolding settled all_settled settled_at
  settled_said p q f = T_true _
      (and_both (eqb (length b.images) images_size && eqb (length b.records) records_size) _ (and_both (eqb (length b.images) images_size) _ (eq-T _ _ p)
      (eq-T _ _ q)) (each_all (settled_at b.images b.records) nodes (λ o small. free_with (record_of_lem o) o (subst (λ (c : Coordinator). Free c o)
      (record_in_lem b.records o small) (λ n h. f o n small h)))))
