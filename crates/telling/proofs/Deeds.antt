-- The sheet that is kept over the machine's steps which deeds at a node are: a deed that is taken tells one thing, and one that is refused nothing.
use mathlib.Core.Path.{◌≡◌, refl, sym, ap, ap₂, ◌∙◌}
use mathlib.Core.Bool.{Bool, true, false, cond}
use mathlib.Core.List.{List, [], ◌∷◌, ◌++◌}
use Prim.Native.Nat.{ℕ}
use native.Mathlib.Omega.{arith}
use lib.Dec.{eqb}
use borrow.Author.Tests.{eqb-true}
use Rattle.mask.specs.Mask.{contains}
use Rattle.coordinator.specs.declared.Coordinator.{Coordinator}
use Rattle.coordinator.specs.Step.{Step as Made}
use Rattle.coordinator.specs.System.{System}
use Rattle.coordinator.specs.Calls.{begin_of, open_of, set_of, request_commit_of, abort_of}
use Rattle.replay.specs.Sheet.{begun_after, opened_after, valued_after}
use Rattle.increments.specs.Deeds.{reads, writes, values, Deed, begins, edits, asks, aborts, edit_of, deed_of, ran}
use Rattle.increments.proofs.Deeds.{ran_append}
use Rattle.steps.specs.Station.{Station, system, with_record}
use Rattle.steps.specs.Step.{Call as Step, Outcome, refused_with, taken, when_off, hosted, step}
use Rattle.steps.specs.Run.{after, trace, event_of}
use Rattle.history.specs.Ledger.{Ledger}
use Rattle.history.specs.Running.{sheet_keeper, telling, keeping, kept_from, sheet}
use Rattle.service.specs.Service.{step_at, steps_at}
use Rattle.service.proofs.Laws.{put_here, after_at, after_append}

-- ---- what a deed that is taken tells
unfoldable pub tell_deed : ℕ → Deed → List ℕ → List ℕ
tell_deed n (begins w) l = begun_after l n
tell_deed n (edits (reads t)) l = opened_after l n t 0
tell_deed n (edits (writes t)) l = opened_after l n t 1
tell_deed n (edits (values t v)) l = valued_after l n t v
tell_deed n asks l = l
tell_deed n aborts l = l

-- one deed at a record, and deeds one after another
unfoldable pub kept_deed : System → Coordinator → ℕ → Deed → List ℕ → List ℕ
kept_deed y c n d l = cond (eqb (deed_of y c n d).number 0) (tell_deed n d l) l

unfoldable pub kept_deeds : System → Coordinator → ℕ → List ℕ → List Deed → List ℕ
kept_deeds y c n l [] = l
kept_deeds y c n l (d ∷ ds) = kept_deed y (ran y c n ds) n d (kept_deeds y c n l ds)

pub kept_append : (y : System) (c : Coordinator) (n : ℕ) (l : List ℕ) (a b : List Deed)
    → kept_deeds y c n l (a ++ b) ≡ kept_deeds y (ran y c n b) n (kept_deeds y c n l b) a
unfolding kept_deeds
kept_append y c n l [] b = refl
kept_append y c n l (d ∷ a) b =
    ap₂ (λ (x : Coordinator) (s : List ℕ). kept_deed y x n d s) (ran_append y c n a b) (kept_append y c n l a b)

-- ---- the machine's number is the record's, at a node that is on
module _ (st : Station) (n : ℕ) (on : contains st.own.on n ≡ true) (c : Coordinator) where
  abbrev at : Station
  at = with_record st n c

  hosted_number : (s : Made) → (hosted at n s).number ≡ s.number
  unfolding hosted
  hosted_number s = by (contains st.own.on n) (eqb s.number 0) on refl
    where
      by : (up t : Bool) → up ≡ true → eqb s.number 0 ≡ t
          → (cond up (cond t (taken s.answer (with_record at n s.coordinator)) (refused_with s.number at)) (refused_with (when_off s.number) at)
          ).number ≡ s.number
      by true true p q = sym (eqb-true s.number 0 q)
      by true false p q = refl
      by false t p q = absurd (let z : ◌≡◌ {A = ℕ} 1 0 = ap (λ (b : Bool). cond b 0 1) p in let y : ⊥ = omega arith in y)

  by_call : (f : Coordinator → Made) → (hosted at n (f (at.records n))).number ≡ (f c).number
  by_call f = hosted_number (f (at.records n)) ∙ ap (λ (d : Coordinator). (f d).number) (put_here st.records n c)

  deed_number : (d : Deed) → (step at (step_at n d)).number ≡ (deed_of (system st) c n d).number
  unfolding step deed_of edit_of
  deed_number (begins w) = by_call (λ (d : Coordinator). begin_of (system st) d n w)
  deed_number (edits (reads t)) = by_call (λ (d : Coordinator). open_of d n t 0)
  deed_number (edits (writes t)) = by_call (λ (d : Coordinator). open_of d n t 1)
  deed_number (edits (values t v)) = by_call (λ (d : Coordinator). set_of d n t v)
  deed_number asks = by_call (λ (d : Coordinator). request_commit_of (system st) d n)
  deed_number aborts = by_call (λ (d : Coordinator). abort_of d n)

-- ---- what the event of a deed tells
event_tells : (L : Ledger) (l : List ℕ) (n : ℕ) (d : Deed) (r : Outcome)
    → keeping sheet_keeper L l (event_of (step_at n d) r) ≡ cond (eqb r.number 0) (tell_deed n d l) l
unfolding keeping telling tell_deed
event_tells L l n (begins w) r = refl
event_tells L l n (edits (reads t)) r = refl
event_tells L l n (edits (writes t)) r = refl
event_tells L l n (edits (values t v)) r = refl
event_tells L l n asks r = refl
event_tells L l n aborts r = refl

-- ---- deeds after a list of steps
module _ (L : Ledger) (l : List ℕ) (st : Station) (es : List Step) (n : ℕ) (on : contains (after st es).own.on n ≡ true) where
  abbrev now : Station
  now = after st es

  pub kept_deeds_lem : (ds : List Deed) → sheet L l (trace st (steps_at n ds ++ es))
      ≡ kept_deeds (system (after st es)) ((after st es).records n) n (sheet L l (trace st es)) ds
  unfolding kept_from kept_deeds kept_deed
  kept_deeds_lem [] = refl
  kept_deeds_lem (d ∷ ds) =
      let c = ran (system now) (now.records n) n ds in
      let before : after st (steps_at n ds ++ es) ≡ with_record now n c = after_append st (steps_at n ds) es ∙ after_at now n ds on in
      event_tells _ (sheet L l (trace st (steps_at n ds ++ es))) n d (step (after st (steps_at n ds ++ es)) (step_at n d))
      ∙ ap₂ (λ (k : ℕ) (s : List ℕ). cond (eqb k 0) (tell_deed n d s) s)
      (ap (λ (w : Station). (step w (step_at n d)).number) before ∙ deed_number now n on c d) (kept_deeds_lem ds)
