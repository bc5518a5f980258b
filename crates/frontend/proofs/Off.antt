-- At a node that is off: 3 of a minute or of weights, else out of turn, with 4 and 10 still before it. Neither closed hours nor a missing table alter that.
use mathlib.Core.Path.{◌≡◌, refl, sym, ap, ◌∙◌, subst}
use mathlib.Core.Bool.{Bool, true, false, cond, not, ◌&&◌, ◌||◌}
use mathlib.Core.List.{List}
use Prim.Native.Nat.{ℕ}
use lib.Dec.{eqb, ltb}
use borrow.Author.Tests.{eq-eqb, eqb-true}
use Rattle.numbers.specs.Sizes.{highest}
use Rattle.hours.specs.Hours.{last_minute}
use Rattle.hours.specs.Kept.{closed}
use Rattle.classes.specs.Classes.{no_table, strange, unbounded, twice, table_number}
use Rattle.classes.specs.Classes.{length_number as tableLength}
use Rattle.classes.specs.Weights.{overweight, batch_length}
use Rattle.age.specs.Age.{too_early}
use Rattle.coordinator.specs.declared.Coordinator.{Coordinator}
use Rattle.coordinator.specs.declared.BeginWith.{BeginWith}
use Rattle.coordinator.specs.System.{System}
use Rattle.coordinator.specs.State.{idle_phase, aborted}
use Rattle.coordinator.specs.Calls.{no_node, too_wide, is_none, begin_refusals, begin_of, request_commit_of}
use Rattle.increments.specs.Deeds.{Edit, edit_of, any_past}
use Rattle.deeds.proofs.Number.{step_number}
use Rattle.settings.specs.Settings.{hours_in, classes_in, adds}
use Rattle.frontend.specs.Plan.{begin, batch, edit, request, load_classes, out_of_turn_after, barred, begin_number, request_by, classes_number}
use Rattle.frontend.specs.Plan.{plan, off_number}
use Rattle.frontend.proofs.Numbers.{planned_number, batch_first}
use Rattle.frontend.proofs.Edits.{edit_late, request_late}

-- ---- the numbers of a begin's own: neither 1 nor 3
abbrev Own : ℕ → Type 0
Own k = (eqb k 1 ≡ false) × (eqb k 3 ≡ false)

own_codes : (a b d e f : Bool) → Own (cond a 4 (cond b 10 (cond d 5 (cond e 8 (cond f 9 0)))))
own_codes true b d e f = (refl, refl)
own_codes false true d e f = (refl, refl)
own_codes false false true e f = (refl, refl)
own_codes false false false true f = (refl, refl)
own_codes false false false false true = (refl, refl)
own_codes false false false false false = (refl, refl)

begin_own : (y : System) (c : Coordinator) (me : ℕ) (w : BeginWith) → Own (begin_of y c me w).number
unfolding begin_of begin_refusals
begin_own y c me w =
    subst Own (step_number _ _ _ _)
    (own_codes (no_node me || too_wide w.live) (not (eqb c.phase idle_phase)) (too_early (eqb c.outcome aborted) c.timestamp w.timestamp)
    (is_none (y.nearest_read me w.live w.distances)) (not (ltb c.serial highest)))

-- ---- a missing table alters nothing that is out of turn
late_barred : (t : Bool) (k : ℕ) → out_of_turn_after (barred t k) ≡ out_of_turn_after k
late_barred false k = refl
late_barred true k = by (eqb k 4 || eqb k 10) refl
  where
    by : (b : Bool) → (eqb k 4 || eqb k 10) ≡ b → out_of_turn_after (out_of_turn_after k) ≡ out_of_turn_after k
    by true e = simp (e, e)
    by false e = simp e

own_barred : (t : Bool) (k : ℕ) → Own k → Own (barred t k)
own_barred false k h = h
own_barred true k h = by (eqb k 4 || eqb k 10)
  where
    by : (b : Bool) → Own (cond b k 5)
    by true = h
    by false = (refl, refl)

-- ---- nor does another number in the place of 0
module _ (m k : ℕ) where
  late_instead : (z : Bool) → out_of_turn_after m ≡ 5 → out_of_turn_after (cond (eqb k 0 && z) m k) ≡ out_of_turn_after k
  late_instead z h = by (eqb k 0) z refl
    where
      by : (b x : Bool) → eqb k 0 ≡ b → out_of_turn_after (cond (b && x) m k) ≡ out_of_turn_after k
      by true true e = h ∙ sym (ap out_of_turn_after (eqb-true k 0 e))
      by true false e = refl
      by false x e = refl

  own_instead : (z : Bool) → Own m → Own k → Own (cond (eqb k 0 && z) m k)
  own_instead z h g = by (eqb k 0 && z)
    where
      by : (b : Bool) → Own (cond b m k)
      by true = h
      by false = g

-- ---- 3 first
off_begun : (late : Bool) (k : ℕ) → Own k → (let n = cond late 3 k in cond (eqb n 3) n (out_of_turn_after n)) ≡ cond late 3 (out_of_turn_after k)
off_begun true k h = refl
off_begun false k h = simp h.1

off_booked : (heavy late : Bool) (k : ℕ) → Own k
    → (let n = cond heavy 3 (cond late 3 k) in cond (eqb n 1 || eqb n 3) n (out_of_turn_after n)) ≡ cond (heavy || late) 3 (out_of_turn_after k)
off_booked true late k h = refl
off_booked false true k h = refl
off_booked false false k h = simp (h.0, h.1)

off_table : (t a b d e : Bool) → (let n = cond t 4 (cond a 6 (cond b 10 (cond d 14 (cond e 15 0)))) in cond (eqb n 1 || eqb n 4) n 5) ≡ cond t 4 5
off_table true a b d e = refl
off_table false true b d e = refl
off_table false false true d e = refl
off_table false false false true e = refl
off_table false false false false true = refl
off_table false false false false false = refl

-- ---- the calls
module _ (y : System) (c : Coordinator) (s : List ℕ) (me : ℕ) where
  module _ (w : BeginWith) (day minute : ℕ) where
    abbrev late : Bool
    late = ltb last_minute minute

    abbrev shut : Bool
    shut = closed (hours_in s) day minute

    abbrev k : ℕ
    k = (begin_of y c me w).number

    pub off_begin : off_number (begin w day minute) (plan y c s me (begin w day minute)).number ≡ cond late 3 (out_of_turn_after k)
    unfolding plan off_number begin_number
    off_begin =
        let n : (plan y c s me (begin w day minute)).number ≡ cond late 3 (cond (eqb k 0 && shut) 13 k) = planned_number _ _ _ _ _ in
        ap (λ (x : ℕ). cond (eqb x 3) x (out_of_turn_after x)) n
        ∙ off_begun late (cond (eqb k 0 && shut) 13 k) (own_instead 13 k shut (refl, refl) (begin_own y c me w))
        ∙ ap (cond late 3) (late_instead 13 k shut refl)

    pub off_batch : (list : List ℕ) → batch_length list ≡ 0
        → off_number (batch w day minute list) (plan y c s me (batch w day minute list)).number ≡ cond (overweight list || late) 3 (out_of_turn_after k)
    unfolding plan off_number begin_number
    off_batch list fine =
        let j = barred (no_table (classes_in s)) k in
        let own = own_barred (no_table (classes_in s)) k (begin_own y c me w) in
        let m = cond late 3 (cond (eqb j 0 && shut) 13 j) in
        let fits : cond (not (eqb (batch_length list) 0)) 1 (cond (overweight list) 3 m) ≡ cond (overweight list) 3 m =
        simp (eq-eqb (batch_length list) 0 fine) in
        let n : (plan y c s me (batch w day minute list)).number ≡ cond (overweight list) 3 m =
        planned_number _ _ _ _ _ ∙ batch_first s day minute list k m refl ∙ fits in
        ap (λ (x : ℕ). cond (eqb x 1 || eqb x 3) x (out_of_turn_after x)) n
        ∙ off_booked (overweight list) late (cond (eqb j 0 && shut) 13 j) (own_instead 13 j shut (refl, refl) own)
        ∙ ap (cond (overweight list || late) 3) (late_instead 13 j shut refl ∙ late_barred (no_table (classes_in s)) k)

  pub off_edit : (e : Edit) → off_number (edit e) (plan y c s me (edit e)).number ≡ cond (no_node me) 4 5
  unfolding plan off_number
  off_edit e =
      let n : (plan y c s me (edit e)).number ≡ barred (adds s) (edit_of c me e).number = planned_number _ _ _ _ _ in
      ap out_of_turn_after n ∙ late_barred (adds s) (edit_of c me e).number ∙ edit_late c me e

  pub off_request : off_number request (plan y c s me request).number ≡ cond (no_node me) 4 5
  unfolding plan off_number
  off_request = ap out_of_turn_after (number (adds s)) ∙ by (adds s) ∙ request_late y c me
    where
      n : ℕ
      n = (request_commit_of y c me).number

      number : (t : Bool) → (request_by t y c s me).number ≡ cond (t && (eqb n 0 && any_past c)) 9 n
      number t = split (t && (eqb n 0 && any_past c)) refl
        where
          split : (b : Bool) → (t && (eqb n 0 && any_past c)) ≡ b → (request_by t y c s me).number ≡ cond b 9 n
          split true e = simp e
          split false e = simp e (planned_number _ _ _ _ _)

      by : (t : Bool) → out_of_turn_after (cond (t && (eqb n 0 && any_past c)) 9 n) ≡ out_of_turn_after n
      by true = late_instead 9 n (any_past c) refl
      by false = refl

  pub off_classes : (list : List ℕ) → tableLength list ≡ 0
      → off_number (load_classes list) (plan y c s me (load_classes list)).number ≡ cond (no_node me) 4 5
  unfolding plan off_number classes_number table_number
  off_classes list fine =
      let m = cond (no_node me) 4 (table_number (not (eqb c.phase idle_phase)) list) in
      let fits : cond (not (eqb (tableLength list) 0)) 1 m ≡ m = simp (eq-eqb (tableLength list) 0 fine) in
      let n : (plan y c s me (load_classes list)).number ≡ m = planned_number _ _ _ _ _ ∙ fits in
      ap (λ (x : ℕ). cond (eqb x 1 || eqb x 4) x 5) n
      ∙ off_table (no_node me) (strange list) (not (eqb c.phase idle_phase)) (unbounded list) (twice list)
