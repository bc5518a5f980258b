-- A begin and a batch: by what refuses them, and by the plan that goes ahead.
use mathlib.Core.Path.{◌≡◌, refl, sym, ap, ap₂, subst, ◌∙◌}
use mathlib.Core.Bool.{Bool, true, false, cond, not, ◌&&◌, ◌||◌}
use mathlib.Core.List.{List, [], ◌∷◌}
use Prim.Native.Nat.{ℕ, ◌+◌, ◌≤◌, ◌<◌}
use native.Mathlib.Omega.{arith}
use lib.Dec.{eqb, ltb}
use lib.ListN.{take}
use lib.Seq.{ext_get_or, get_or-take, length-take-le}
use borrow.Author.Tests.{eq-eqb, ne_eqb, eqb-true, eqb-false, lt-ltb, le-ltb, ltb-true, ltb-false}
use Rattle.numbers.proofs.Laws.{lower_none}
use Rattle.wire.proofs.Accepted.{length_items}
use Rattle.hours.specs.Hours.{last_minute}
use Rattle.hours.specs.Kept.{closed}
use Rattle.classes.specs.Classes.{most_classes, bound_count, tally_count, tally_place, tally_at, tallies, table_number, no_table, sound}
use Rattle.classes.specs.Weights.{overweight, batch_length, grams_of, left_of, tallies_of}
use Rattle.classes.proofs.Table.{accepted_bounded}
use Rattle.classes.proofs.Theorems.{length_tallies, tally_at_lem}
use Rattle.coordinator.specs.declared.Coordinator.{Coordinator}
use Rattle.coordinator.specs.declared.BeginWith.{BeginWith}
use Rattle.coordinator.specs.Step.{Step}
use Rattle.coordinator.specs.System.{tree}
use Rattle.coordinator.specs.Calls.{begin_of}
use Rattle.increments.specs.Deeds.{begins, deed_of, ran, amounts, amounts_of, adding}
use Rattle.increments.proofs.Deeds.{ran_adding}
use Rattle.record.specs.declared.Called.{Called}
use Rattle.record.specs.Record.{record_of, bytes_of, check}
use Rattle.record.specs.Call.{called, called_of, kept}
use Rattle.record.specs.Call.{told_by as toldByStep}
use Rattle.deeds.proofs.Held.{Holds, holds_read}
use Rattle.settings.specs.Settings.{hours_in, classes_in, tenths, settled_as, no_tenths}
use Rattle.frontend.specs.Plan.{Plan, Call, begin, batch, refused_plan, planned, out_of_turn_after, barred, begin_number, batch_number, booked, batch_by}
use Rattle.frontend.specs.Plan.{plan, plan_on, told_by, left_by, batch_here, first_number, list_number}
use Rattle.frontend.proofs.Deed.{step_told, deed_left, plan_refused, plan_taken}
use Rattle.frontend.proofs.Numbers.{batch_first}
use Rattle.frontend.proofs.Does.{Does, as_planned, plan_refuses}

-- ---- the number of a begin, by the record's own
module _ (s : List ℕ) (day minute : ℕ) where
  pub late_number : last_minute < minute → (k : ℕ) → begin_number s day minute k ≡ 3
  unfolding begin_number
  late_number h k = simp (lt-ltb last_minute minute h)

  pub shut_number : minute ≤ last_minute → closed (hours_in s) day minute ≡ true → (k r : ℕ) → r ≡ cond (not (eqb k 0)) k 13
      → (begin_number s day minute k ≡ r) × (r ≡ 0 → ⊥)
  unfolding begin_number
  shut_number h e k r f = by (eqb k 0) refl
    where
      by : (b : Bool) → eqb k 0 ≡ b → (begin_number s day minute k ≡ r) × (r ≡ 0 → ⊥)
      by true p = let g : r ≡ 13 = f ∙ simp p in (simp (le-ltb last_minute minute h, p, e) (sym g), λ z. let q : ⊥ = omega (arith, g, z) in q)
      by false p = let g : r ≡ k = f ∙ simp p in (simp (le-ltb last_minute minute h, p) (sym g), λ z. eqb-false k 0 p (sym g ∙ z))

  pub open_number : minute ≤ last_minute → closed (hours_in s) day minute ≡ false → (k : ℕ) → begin_number s day minute k ≡ k
  unfolding begin_number
  open_number h e k = by (eqb k 0) refl
    where
      by : (b : Bool) → eqb k 0 ≡ b → begin_number s day minute k ≡ k
      by true p = simp (le-ltb last_minute minute h, p, e)
      by false p = simp (le-ltb last_minute minute h, p)

  -- out of turn, whatever the hours are
  pub turned_number : minute ≤ last_minute → (k : ℕ) → (k ≡ 0 → ⊥) → begin_number s day minute k ≡ k
  unfolding begin_number
  turned_number h k n = simp (le-ltb last_minute minute h, ne_eqb k 0 n)

pub out_of_turn_lem : (k : ℕ) → out_of_turn_after k ≡ 0 → ⊥
out_of_turn_lem k = by (eqb k 4) (eqb k 10) refl refl
  where
    by : (a b : Bool) → eqb k 4 ≡ a → eqb k 10 ≡ b → cond (a || b) k 5 ≡ 0 → ⊥
    by true b p q e = let z = eqb-true k 4 p in omega (arith, z, e)
    by false true p q e = let z = eqb-true k 10 q in omega (arith, z, e)
    by false false p q e = omega (arith, e)

-- the record's own number, from the call that finds it ahead
pub own_number_lem : (f : Coordinator → Step) (l : List ℕ) → check l ≡ 0 → (k : ℕ) → k ≡ (called_of f l).number → (f (record_of l)).number ≡ k
unfolding called_of
own_number_lem f l e k p = sym (p ∙ simp (eq-eqb (check l) 0 e))

-- ---- a begin
module _ (l s : List ℕ) (me : ℕ) (w : BeginWith) (day minute : ℕ) (same : bytes_of (record_of l) ≡ l) where
  abbrev a : Call
  a = begin w day minute

  abbrev b : Step
  b = begin_of tree (record_of l) me w

  module _ (z : first_number l s a ≡ 0) where
    abbrev number : ℕ
    number = begin_number s day minute b.number

    pub begin_refuses : (k : ℕ) → number ≡ k → (k ≡ 0 → ⊥) → Does l s me a (called k 0) l s
    unfolding plan
    begin_refuses k e h =
        plan_refuses l s me a z same k
        (plan_refused number b.answer (begins w ∷ []) (settled_as 0 no_tenths (record_of l) s) s (λ q. h (sym e ∙ q)) ∙ ap (λ (n : ℕ). refused_plan n s) e)

    -- where it goes on to the record
    module _ (e : number ≡ b.number) where
      abbrev p : Plan
      p = planned b.number b.answer (begins w ∷ []) (settled_as 0 no_tenths (record_of l) s) s

      is_plan : plan_on l s me a ≡ p
      unfolding plan
      is_plan = ap (λ (n : ℕ). planned n b.answer (begins w ∷ []) (settled_as 0 no_tenths (record_of l) s) s) e

      told_is : toldByStep b ≡ told_by p
      unfolding begin_of
      told_is = step_told _ _ (record_of l) _ (begins w ∷ []) (settled_as 0 no_tenths (record_of l) s) s

      left_is : kept b l ≡ left_by p l me
      unfolding deed_of
      left_is = deed_left l same me (begins w) b.answer (settled_as 0 no_tenths (record_of l) s) s

      pub begin_goes : (r : Called) (l' s' : List ℕ) → r ≡ toldByStep b → l' ≡ kept b l
          → ((b.number ≡ 0 → s' ≡ settled_as 0 no_tenths (record_of l) s) × ((b.number ≡ 0 → ⊥) → s' ≡ s)) → Does l s me a r l' s'
      begin_goes r l' s' q t u = let d = as_planned l s me a z p is_plan in record {
        told = q ∙ told_is ∙ d.told;
        its_record = t ∙ left_is ∙ d.its_record;
        settings = by (eqb b.number 0) refl ∙ d.settings;
      }
        where
          by : (x : Bool) → eqb b.number 0 ≡ x → s' ≡ p.settings
          by true x = u.0 (eqb-true b.number 0 x) ∙ sym (simp x)
          by false x = u.1 (eqb-false b.number 0 x) ∙ sym (simp x)

-- ---- a batch
-- a sound table has at most eight tallies; the first of eight places are the tallies
pub few_tallies : (k : List ℕ) → sound k ≡ true → tally_count k ≤ most_classes
unfolding sound no_table
few_tallies k = by (eqb (bound_count k) 0) (eqb (tally_count k) 0) (eqb (table_number false k) 0) refl refl
  where
    table : table_number false k ≡ 0 → tally_count k ≤ most_classes
    table e = let b = accepted_bounded false k e in omega (arith, b.few, b.tallied)

    by : (a b t : Bool) → eqb (tally_count k) 0 ≡ b → eqb (table_number false k) 0 ≡ t → (a && b || t) ≡ true → tally_count k ≤ most_classes
    by true true t p q e = let z = eqb-true (tally_count k) 0 p in omega (arith, z)
    by true false true p q e = table (eqb-true (table_number false k) 0 q)
    by false b true p q e = table (eqb-true (table_number false k) 0 q)
    by true false false p q e = absurd (subst (λ (x : Bool). cond x ⊥ (Unit {0})) e tt)
    by false b false p q e = absurd (subst (λ (x : Bool). cond x ⊥ (Unit {0})) e tt)

pub tallies_taken : (k : List ℕ) → tally_count k ≤ most_classes → take (tally_count k) (tallies_of k) ≡ tallies k
unfolding tallies
tallies_taken k h =
    let n = length_tallies k in
    let p = length-take-le (tally_count k) (tallies_of k) (omega (arith, n, h)) in
    let q = length_items tally_at 1 k (tally_count k) (tally_place k + 1) in
    ext_get_or 0 (take (tally_count k) (tallies_of k)) (tallies k) (p ∙ sym q)
    (λ j i. let u : j < tally_count k = omega (arith, p, i) in
    get_or-take (tally_count k) (tallies_of k) j 0 u ∙ tally_at_lem k j (omega (arith, u, h)))

-- as the code has it: what was found for each part
pub added_left : (me : ℕ) (out l m u v g h : List ℕ) (n k : ℕ) → out ≡ bytes_of (ran tree (record_of l) me (adding (amounts_of n u g) []))
    → l ≡ m → n ≡ k → u ≡ v → g ≡ h → out ≡ bytes_of (ran tree (record_of m) me (adding (amounts_of k v h) []))
added_left me out l m u v g h n k e p q r t = e ∙ (λ i. bytes_of (ran tree (record_of (p i)) me (adding (amounts_of (q i) (r i) (t i)) [])))

module _ (l s : List ℕ) (me : ℕ) (w : BeginWith) (list : List ℕ) (same : bytes_of (record_of l) ≡ l) where
  abbrev c : Coordinator
  c = record_of l

  abbrev k : List ℕ
  k = classes_in s

  abbrev t : List ℕ
  t = tenths c s

  abbrev B : Step
  B = begin_of tree c me w

  abbrev H : Plan
  H = batch_here l s me w list

  -- refused by the record
  pub batch_stays : (B.number ≡ 0 → ⊥) → (toldByStep B ≡ told_by H) × ((kept B l ≡ left_by H l me) × (s ≡ H.settings))
  unfolding kept ran begin_of
  batch_stays h =
      let p = plan_refused B.number B.answer (adding (booked c s list) (begins w ∷ [])) (settled_as 1 (left_of k t list) c s) s h in (
        step_told _ _ c _ (adding (booked c s list) (begins w ∷ [])) (settled_as 1 (left_of k t list) c s) s,
        (
          let e : kept B l ≡ l = simp (ne_eqb B.number 0 h) in e ∙ sym same ∙ ap (λ (q : Plan). left_by q l me) (sym p),
          ap (λ (q : Plan). q.settings) (sym p),
        ),
      )

  -- begun, and each tally opened and given its grams
  module _ (h : B.number ≡ 0) (held : Holds (kept B l) B.coordinator) (fine : sound k ≡ true) where
    booked_is : amounts_of (tally_count k) (tallies_of k) (grams_of k t list) ≡ booked c s list
    booked_is = ap (λ (m : List ℕ). amounts m (grams_of k t list)) (tallies_taken k (few_tallies k fine))

    ran_is : ran tree (record_of (kept B l)) me (adding (amounts_of (tally_count k) (tallies_of k) (grams_of k t list)) [])
        ≡ ran tree c me (adding (booked c s list) (begins w ∷ []))
    unfolding ran deed_of
    ran_is = ap₂ (λ (d : Coordinator) (m : List _). ran tree d me (adding m [])) (holds_read (kept B l) B.coordinator held) booked_is
        ∙ sym (ran_adding tree c me (booked c s list) (begins w ∷ []))

    pub batch_goes : (toldByStep B ≡ told_by H)
        × ((bytes_of (ran tree (record_of (kept B l)) me (adding (amounts_of (tally_count k) (tallies_of k) (grams_of k t list)) [])) ≡ left_by H l me)
        × (settled_as 1 (left_of k t list) c s ≡ H.settings))
    unfolding begin_of
    batch_goes =
        let p = plan_taken B.number B.answer (adding (booked c s list) (begins w ∷ [])) (settled_as 1 (left_of k t list) c s) s h in (
          step_told _ _ c _ (adding (booked c s list) (begins w ∷ [])) (settled_as 1 (left_of k t list) c s) s,
          (ap bytes_of ran_is ∙ ap (λ (q : Plan). left_by q l me) (sym p), ap (λ (q : Plan). q.settings) (sym p)),
        )

-- the whole call
module _ (l s : List ℕ) (me : ℕ) (w : BeginWith) (day minute : ℕ) (list : List ℕ) (same : bytes_of (record_of l) ≡ l) where
  abbrev A : Call
  A = batch w day minute list

  abbrev own : ℕ
  own = (begin_of tree (record_of l) me w).number

  abbrev N : ℕ
  N = batch_number s day minute list own

  module _ (z : first_number l s A ≡ 0) where
    length_fine : batch_length list ≡ 0
    unfolding first_number list_number
    length_fine = (lower_none _ (batch_length list) z).1

    -- its number is that of the begin behind it, where the weights are fine
    number_is : overweight list ≡ false → (m : ℕ) → begin_number s day minute (barred (no_table (classes_in s)) own) ≡ m → N ≡ m
    number_is e m f = batch_first s day minute list own m f ∙ simp (length_fine, e)

    pub batch_refuses : (r : ℕ) → N ≡ r → (r ≡ 0 → ⊥) → Does l s me A (called r 0) l s
    unfolding plan
    batch_refuses r e h =
        let c = record_of l in
        plan_refuses l s me A z same r
        (plan_refused N (begin_of tree c me w).answer (adding (booked c s list) (begins w ∷ []))
        (settled_as 1 (left_of (classes_in s) (tenths c s) list) c s) s (λ q. h (sym e ∙ q)) ∙ ap (λ (n : ℕ). refused_plan n s) e)

    pub overweight_three : (overweight list || ltb last_minute minute) ≡ true → N ≡ 3
    overweight_three = by (overweight list) refl
      where
        by : (x : Bool) → overweight list ≡ x → (x || ltb last_minute minute) ≡ true → N ≡ 3
        by true p e = batch_first s day minute list own _ refl ∙ simp (length_fine, p)
        by false p e = number_is p 3 (late_so e)
          where
            late_so : ltb last_minute minute ≡ true → begin_number s day minute (barred (no_table (classes_in s)) own) ≡ 3
            late_so e = late_number s day minute (ltb-true last_minute minute e) _

    module _ (light : overweight list ≡ false) (early : minute ≤ last_minute) where
      pub no_table_lem : no_table (classes_in s) ≡ true → N ≡ out_of_turn_after own
      no_table_lem e = number_is light (out_of_turn_after own)
          (ap (λ (x : Bool). begin_number s day minute (barred x own)) e ∙ turned_number s day minute early (out_of_turn_after own) (out_of_turn_lem own))

      module _ (table : no_table (classes_in s) ≡ false) where
        pub shut_batch : closed (hours_in s) day minute ≡ true → (r : ℕ) → r ≡ cond (not (eqb own 0)) own 13 → (N ≡ r) × (r ≡ 0 → ⊥)
        shut_batch e r f =
            let q = shut_number s day minute early e own r f in
            (number_is light r (ap (λ (x : Bool). begin_number s day minute (barred x own)) table ∙ q.0), q.1)

        pub open_batch : closed (hours_in s) day minute ≡ false → (r : Called) (l' s' : List ℕ) → r ≡ told_by (batch_here l s me w list)
            → l' ≡ left_by (batch_here l s me w list) l me → s' ≡ (batch_here l s me w list).settings → Does l s me A r l' s'
        unfolding plan
        open_batch e r l' s' p q t =
            let n : N ≡ own = number_is light own (ap (λ (x : Bool). begin_number s day minute (barred x own)) table ∙ open_number s day minute early e own) in
            let d = as_planned l s me A z (batch_here l s me w list) (ap (λ (j : ℕ). batch_by j tree (record_of l) s me w list) n) in
            record { told = p ∙ d.told; its_record = q ∙ d.its_record; settings = t ∙ d.settings }

-- weights that are light and a minute of a week, as the code tests them
pub neither : (l : List ℕ) (minute : ℕ) (o t : Bool) → t ≡ (o || ltb last_minute minute) → o ≡ overweight l → t ≡ false
    → (overweight l ≡ false) × (minute ≤ last_minute)
neither l minute o t e f g = by (overweight l) (ltb last_minute minute) refl refl (sym (ap (λ (b : Bool). b || ltb last_minute minute) f) ∙ sym e ∙ g)
  where
    by : (x y : Bool) → overweight l ≡ x → ltb last_minute minute ≡ y → (x || y) ≡ false → (overweight l ≡ false) × (minute ≤ last_minute)
    by false false p q e = (p, ltb-false last_minute minute q)
    by true y p q e = absurd (subst (λ (x : Bool). cond x (Unit {0}) ⊥) e tt)
    by false true p q e = absurd (subst (λ (x : Bool). cond x (Unit {0}) ⊥) e tt)
