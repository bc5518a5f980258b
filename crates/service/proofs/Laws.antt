-- The machine after deeds at a node that is on: only the node's record changes, and is what the deeds make of it. One step after another: a deed that is
-- taken puts its record, and one that is refused leaves it.
use mathlib.Core.Path.{◌≡◌, refl, sym, ap, ◌∙◌}
use mathlib.Core.Bool.{Bool, true, false, cond}
use mathlib.Core.List.{List, [], ◌∷◌, ◌++◌}
use Prim.Native.Nat.{ℕ}
use native.Mathlib.Omega.{arith}
use lib.Dec.{eqb}
use borrow.Author.Tests.{eqb-true, eqb-false, eq-eqb, ne_eqb}
use Rattle.mask.specs.Mask.{contains}
use Rattle.coordinator.specs.declared.Coordinator.{Coordinator}
use Rattle.coordinator.specs.Step.{Step as Made}
use Rattle.coordinator.specs.State.{step_of}
use Rattle.coordinator.specs.Calls.{begin_of, open_of, set_of, request_commit_of, abort_of}
use Rattle.increments.specs.Deeds.{reads, writes, values, Deed, begins, edits, asks, aborts, edit_of, deed_of, ran}
use Rattle.steps.specs.Station.{Station, system, put_at, with_record}
use Rattle.steps.specs.Step.{Call as Step, refused_with, taken, when_off, hosted, step}
use Rattle.steps.specs.Run.{after}
use Rattle.service.specs.Service.{step_at, steps_at}

-- ---- a table changed at one place
module _ {A : Type 0} (f : ℕ → A) (n : ℕ) where
  pub put_here : (v : A) → put_at f n v n ≡ v
  unfolding put_at
  put_here v = simp (eq-eqb n n refl)

  pub put_else : (v : A) (i : ℕ) → (i ≡ n → ⊥) → put_at f n v i ≡ f i
  unfolding put_at
  put_else v i e = simp (ne_eqb i n e)

  put_same_at : (i : ℕ) (t : Bool) → eqb i n ≡ t → f i ≡ cond t (f n) (f i)
  put_same_at i true e = ap f (eqb-true i n e)
  put_same_at i false e = refl

  pub put_same : f ≡ put_at f n (f n)
  unfolding put_at
  put_same = λ k i. put_same_at i (eqb i n) refl k

  put_twice_at : (v w : A) (t : Bool) (i : ℕ) → cond t w (cond t v (f i)) ≡ cond t w (f i)
  put_twice_at v w true i = refl
  put_twice_at v w false i = refl

  pub put_twice : (v w : A) → put_at (put_at f n v) n w ≡ put_at f n w
  unfolding put_at
  put_twice v w = λ k i. put_twice_at v w (eqb i n) i k

-- ---- one deed
-- a refused call leaves the record
left_so : (number answer : ℕ) (c d : Coordinator) → ((step_of number answer c d).number ≡ 0 → ⊥) → (step_of number answer c d).coordinator ≡ c
unfolding step_of
left_so number answer c d = by (eqb number 0)
  where
    made : Bool → Made
    made t = cond t (record { number = 0; answer = answer; coordinator = d }) (record { number = number; answer = 0; coordinator = c })

    by : (t : Bool) → ((made t).number ≡ 0 → ⊥) → (made t).coordinator ≡ c
    by true h = absurd (h refl)
    by false h = refl

module _ (st : Station) (n : ℕ) (on : contains st.own.on n ≡ true) (c : Coordinator) where
  abbrev at : Station
  at = with_record st n c

  hosted_at : (s : Made) → ((s.number ≡ 0 → ⊥) → s.coordinator ≡ c) → (hosted at n s).station ≡ with_record st n s.coordinator
  unfolding hosted
  hosted_at s left = by (contains st.own.on n) (eqb s.number 0) on refl
    where
      by : (up t : Bool) → up ≡ true → eqb s.number 0 ≡ t
          → (cond up (cond t (taken s.answer (with_record at n s.coordinator)) (refused_with s.number at)) (refused_with (when_off s.number) at)
          ).station ≡ with_record st n s.coordinator
      by true true p q = ap (λ (f : ℕ → Coordinator). record { images = st.images; records = f; pool = st.pool; own = st.own })
          (put_twice st.records n c s.coordinator)
      by true false p q = ap (with_record st n) (sym (left (eqb-false s.number 0 q)))
      by false t p q = absurd (let z : ◌≡◌ {A = ℕ} 1 0 = ap (λ (b : Bool). cond b 0 1) p in let y : ⊥ = omega arith in y)

  -- by what the call makes of c
  by_call : (f : Coordinator → Made) → (((f c).number ≡ 0 → ⊥) → (f c).coordinator ≡ c)
      → (hosted at n (f (put_at st.records n c n))).station ≡ with_record st n (f c).coordinator
  by_call f left = ap (λ (d : Coordinator). (hosted at n (f d)).station) (put_here st.records n c) ∙ hosted_at (f c) left

  pub deed_at : (d : Deed) → (step at (step_at n d)).station ≡ with_record st n (deed_of (system st) c n d).coordinator
  unfolding step deed_of edit_of begin_of open_of set_of request_commit_of abort_of
  deed_at (begins w) = by_call (λ (d : Coordinator). begin_of (system st) d n w) (left_so _ _ _ _)
  deed_at (edits (reads t)) = by_call (λ (d : Coordinator). open_of d n t 0) (left_so _ _ _ _)
  deed_at (edits (writes t)) = by_call (λ (d : Coordinator). open_of d n t 1) (left_so _ _ _ _)
  deed_at (edits (values t v)) = by_call (λ (d : Coordinator). set_of d n t v) (left_so _ _ _ _)
  deed_at asks = by_call (λ (d : Coordinator). request_commit_of (system st) d n) (left_so _ _ _ _)
  deed_at aborts = by_call (λ (d : Coordinator). abort_of d n) (left_so _ _ _ _)

-- ---- deeds one after another
pub after_at : (st : Station) (n : ℕ) (ds : List Deed) → contains st.own.on n ≡ true
    → after st (steps_at n ds) ≡ with_record st n (ran (system st) (st.records n) n ds)
unfolding ran
after_at st n [] on = ap (λ (f : ℕ → Coordinator). record { images = st.images; records = f; pool = st.pool; own = st.own }) (put_same st.records n)
after_at st n (d ∷ ds) on =
    ap (λ (s : Station). (step s (step_at n d)).station) (after_at st n ds on) ∙ deed_at st n on (ran (system st) (st.records n) n ds) d

-- ---- steps after steps
pub after_append : (st : Station) (k l : List Step) → after st (k ++ l) ≡ after (after st l) k
after_append st [] l = refl
after_append st (c ∷ k) l = ap (λ (s : Station). (step s c).station) (after_append st k l)
