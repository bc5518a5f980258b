-- THE LAW: after any call of a front end, the sheet kept over the machine's steps of the longer list is what was kept before with what the call tells: of an
-- accepted one, its begin, its object or its new value; of a batch, and of votes asked for on one, what its record has after the call.
use mathlib.Core.Path.{◌≡◌, refl, sym, ap, subst, ◌∙◌}
use mathlib.Core.Bool.{Bool, true, false, cond}
use mathlib.Core.List.{List, [], ◌∷◌, ◌++◌}
use Prim.Native.Nat.{ℕ, ◌<◌}
use native.Mathlib.Omega.{arith}
use lib.Dec.{eqb, ltb}
use lib.ListN.{length}
use borrow.Author.Tests.{eqb-true, eqb-false, ltb-true, eq-eqb, ne_eqb}
use Rattle.numbers.specs.Sizes.{nodes}
use Rattle.mask.specs.Mask.{contains}
use Rattle.classes.specs.Classes.{tally_count, tallies, sound}
use Rattle.classes.specs.Weights.{grams_of}
use Rattle.clauses.proofs.Parts.{by_test}
use Rattle.clauses.proofs.Facts.{Meets}
use Rattle.clauses.proofs.Quorums.{Quorums}
use Rattle.coordinator.specs.declared.Coordinator.{Coordinator}
use Rattle.coordinator.specs.declared.BeginWith.{BeginWith}
use Rattle.coordinator.specs.System.{System}
use Rattle.coordinator.specs.Calls.{begin_of, request_commit_refusals, request_commit_of, abort_of}
use Rattle.replay.specs.Sheet.{begun_after}
use Rattle.increments.specs.Deeds.{Deed, begins, edits, asks, aborts, edit_of, deed_of, ran, adding, in_use, summing}
use Rattle.increments.proofs.Deeds.{ran_adding}
use Rattle.settings.specs.Settings.{classes_in, adds, tenths, settings_number}
use Rattle.settings.proofs.Sound.{sound_parts}
use Rattle.frontend.specs.Plan.{begin, batch, edit, request, load_classes, Plan, plan, booked, off_number}
use Rattle.frontend.specs.Plan.{Call as Front}
use Rattle.steps.specs.Station.{Station, system, put_at}
use Rattle.steps.specs.Step.{Call as Step}
use Rattle.steps.specs.Run.{after, trace}
use Rattle.history.specs.Origin.{ledger_of}
use Rattle.history.specs.Running.{sheet}
use Rattle.history.proofs.Tests.{not-false}
use Rattle.history.proofs.Claimed.{always_good}
use Rattle.service.specs.Service.{Service, Call, front, is_on, plan_at, steps_at, number_of, made, settings_of, step}
use Rattle.service.proofs.Laws.{put_here, after_at}
use Rattle.accounts.specs.Accounts.{Origin, Rested, FrontTyped, AllTyped, reached, expand}
use Rattle.accounts.proofs.Expand.{same_machine}
use Rattle.accounts.proofs.Plans.{begin_cases, batch_cases, edit_cases, load_cases, request_cases}
use Rattle.accounts.proofs.Facts.{barred_none, begin_none, batch_none, off_front, begun_open, request_phase, request_clear}
use Rattle.accounts.proofs.Typed.{settings_sound, expand_typed}
use Rattle.accounts.proofs.Grams.{Tallies, length_tallies, table_tallies, has_table, begun_empty, is_node, few, small, apart, begun_meets}
use Rattle.telling.specs.Telling.{objects_told}
use Rattle.telling.proofs.Deeds.{tell_deed, kept_deed, kept_deeds, kept_deeds_lem}
use Rattle.telling.proofs.Batches.{batch_tells, request_tells, from_begin}

-- ---- what an accepted call of a front end tells, by the record and the settings that it leaves
unfoldable pub call_told : ℕ → Front → Coordinator → List ℕ → List ℕ → List ℕ
call_told n (begin w day minute) c s l = begun_after l n
call_told n (batch w day minute list) c s l = objects_told true n (in_use c) (begun_after l n)
call_told n (edit e) c s l = tell_deed n (edits e) l
call_told n request c s l = cond (adds s) (objects_told false n (in_use c) l) l
call_told n (load_classes list) c s l = l

-- the tallies of sound classes are some, and stand once
good_tallies : (k : List ℕ) → sound k ≡ true → Tallies (tallies k)
good_tallies k e = by_test (Tallies (tallies k)) (eqb (tally_count k) 0)
    (λ t. let z = length_tallies k ∙ eqb-true (tally_count k) 0 t in
    record {
      few = omega (arith, z);
      known = λ j h. absurd (let x : ⊥ = omega (arith, z, h) in x);
      apart = λ i j h g q. absurd (let x : ⊥ = omega (arith, z, h) in x);
    })
    (λ t. let z = eqb-false (tally_count k) 0 t in table_tallies k (has_table k 0 e (some (tally_count k) z)))
  where
    some : (n : ℕ) → (n ≡ 0 → ⊥) → 0 < n
    some n z = omega (arith, z)

-- ---- what a plan's deeds tell is what its call does
module _ (y : System) (q : Quorums y) (c : Coordinator) (n : ℕ) (m : Meets y c) (s : List ℕ) (fine : settings_number s ≡ 0) (l : List ℕ) where
  abbrev Tells : Front → Plan → Type 0
  Tells a p = kept_deeds y c n l p.deeds ≡ cond (eqb p.number 0) (call_told n a (ran y c n p.deeds) p.settings l) l

  -- a plan that is refused tells nothing
  refused : (a : Front) (k : ℕ) (d : Coordinator) (z : List ℕ) → (k ≡ 0 → ⊥) → l ≡ cond (eqb k 0) (call_told n a d z l) l
  refused a k d z e = simp (ne_eqb k 0 e)

  one_deed : (d : Deed) → (deed_of y c n d).number ≡ 0 → kept_deed y c n d l ≡ tell_deed n d l
  unfolding kept_deed
  one_deed d e = simp (eq-eqb _ 0 e)

  batch_law : (w : BeginWith) (list : List ℕ) → length w.distances ≡ nodes → (begin_of y c n w).number ≡ 0
      → kept_deeds y c n l (adding (booked c s list) (begins w ∷ []))
      ≡ objects_told true n (in_use (ran y c n (adding (booked c s list) (begins w ∷ [])))) (begun_after l n)
  unfolding ran deed_of
  batch_law w list far e =
      let k = classes_in s in
      let g = grams_of k (tenths c s) list in
      let t = good_tallies k (sound_parts s fine).classes in
      from_begin y c n w (booked c s list) l e
      ∙ batch_tells y q (begin_of y c n w).coordinator n (begun_meets y q c n m w far e (tallies k) g t) (begun_open y c n w e)
      (is_node y q c n m w far e (tallies k) g t) (begun_empty y q c n m w far e (tallies k) g t) (booked c s list)
      (few y q c n m w far e (tallies k) g t) (small y q c n m w far e (tallies k) g t) (apart y q c n m w far e (tallies k) g t) (begun_after l n)
      ∙ ap (λ (d : Coordinator). objects_told true n (in_use d) (begun_after l n)) (sym (ran_adding y c n (booked c s list) (begins w ∷ [])))

  aborts_tell : kept_deed y c n aborts l ≡ l
  unfolding kept_deed tell_deed deed_of
  aborts_tell = by_test _ (eqb (abort_of c n).number 0) (λ t. simp t) (λ t. simp t)

  asks_tell : kept_deed y c n asks l ≡ l
  unfolding kept_deed tell_deed deed_of
  asks_tell = by_test _ (eqb (request_commit_of y c n).number 0) (λ t. simp t) (λ t. simp t)

  -- votes asked for on a batch, and on a transaction of the host's own
  sums_law : (request_commit_of y c n).number ≡ 0 → adds s ≡ true
      → kept_deeds y c n l (asks ∷ summing (in_use c) [])
      ≡ cond (adds s) (objects_told false n (in_use (ran y c n (asks ∷ summing (in_use c) []))) l) l
  unfolding request_commit_refusals
  sums_law e a =
      request_tells y q c n m (request_phase y n c e) (ltb-true n nodes (not-false (ltb n nodes) (request_clear y n c e).0)) l ∙ sym (simp a)

  pub plan_tells : (a : Front) → FrontTyped n a → Tells a (plan y c s n a)
  unfolding plan call_told kept_deeds ran deed_of tell_deed
  plan_tells (begin w day minute) h = begin_cases (Tells (begin w day minute)) y c s n w day minute
      (λ e. one_deed (begins w) (begin_none s day minute (begin_of y c n w).number e)) (λ e. refused (begin w day minute) _ c s e)
  plan_tells (batch w day minute list) h = batch_cases (Tells (batch w day minute list)) y c s n w day minute list
      (λ e. batch_law w list h.1.0 (batch_none s day minute list (begin_of y c n w).number e).1) (λ e. refused (batch w day minute list) _ c s e)
  plan_tells (edit d) h = edit_cases (Tells (edit d)) c s n d
      (λ e. one_deed (edits d) (barred_none (adds s) (edit_of c n d).number e).1) (λ e. refused (edit d) _ c s e)
  plan_tells request h = request_cases (Tells request) y c s n (λ a e f. aborts_tell) (λ a e f. sums_law e a) (λ a e. asks_tell ∙ sym (simp a))
      (λ e. refused request _ c s e)
  plan_tells (load_classes list) h = load_cases (Tells (load_classes list)) c s n list (λ e. refl) (λ e. refused (load_classes list) _ c s e)

-- ---- after a list of the service's steps
module _ (o : Origin) (r : Rested o) (cs : List Call) (typed : AllTyped cs) (l : List ℕ) (n : ℕ) (a : Front) (h : FrontTyped n a) where
  abbrev v : Service
  v = reached o cs

  abbrev es : List Step
  es = expand o cs

  -- the sheet that is kept over the steps of a list
  abbrev kept : List Step → List ℕ
  kept ds = sheet (ledger_of o.machine) l (trace o.machine.station ds)

  -- at a node that is on, at a station
  abbrev At : Station → Type 0
  At w = contains w.own.on n ≡ true
      → sheet (ledger_of o.machine) l (trace o.machine.station (steps_at n (plan (system w) (w.records n) (v.settings n) n a).deeds ++ es))
      ≡ cond (eqb (plan (system w) (w.records n) (v.settings n) n a).number 0)
      (call_told n a ((after w (steps_at n (plan (system w) (w.records n) (v.settings n) n a).deeds)).records n)
      (plan (system w) (w.records n) (v.settings n) n a).settings (kept es)) (kept es)

  at_machine : At (after o.machine.station es)
  at_machine on =
      let w = after o.machine.station es in
      let p = plan (system w) (w.records n) (v.settings n) n a in
      let g = (always_good o.machine r.machine es (expand_typed o r cs typed)).world in
      kept_deeds_lem (ledger_of o.machine) l o.machine.station es n on p.deeds
      ∙ plan_tells (system w) g.sane.choices (w.records n) n (g.valid.records n) (v.settings n) (settings_sound o r cs n) (kept es) a h
      ∙ ap (λ (d : Coordinator). cond (eqb p.number 0) (call_told n a d p.settings (kept es)) (kept es))
      (sym (ap (λ (z : Station). z.records n) (after_at w n p.deeds on) ∙ put_here w.records n _))

  -- THEOREM
  pub front_tells : sheet (ledger_of o.machine) l (trace o.machine.station (expand o (front n a ∷ cs)))
      ≡ cond (eqb (step (reached o cs) (front n a)).number 0)
      (call_told n a ((step (reached o cs) (front n a)).service.machine.records n) ((step (reached o cs) (front n a)).service.settings n)
      (sheet (ledger_of o.machine) l (trace o.machine.station (expand o cs))))
      (sheet (ledger_of o.machine) l (trace o.machine.station (expand o cs)))
  unfolding made number_of settings_of
  front_tells = by (is_on v n) refl
    where
      by : (up : Bool) → is_on v n ≡ up
          → kept (cond up (steps_at n (plan_at v n a).deeds) [] ++ es)
          ≡ cond (eqb (cond up (plan_at v n a).number (off_number a (plan_at v n a).number)) 0)
          (call_told n a ((after v.machine (cond up (steps_at n (plan_at v n a).deeds) [])).records n)
          (cond up (put_at v.settings n (plan_at v n a).settings) v.settings n) (kept es)) (kept es)
      by true e =
          subst At (sym (same_machine o cs)) at_machine e
          ∙ ap (λ (z : List ℕ). cond (eqb (plan_at v n a).number 0) (call_told n a ((after v.machine (steps_at n (plan_at v n a).deeds)).records n) z
          (kept es)) (kept es)) (sym (put_here v.settings n (plan_at v n a).settings))
      by false e = simp (ne_eqb (off_number a (plan_at v n a).number) 0 (off_front a (plan_at v n a).number))
