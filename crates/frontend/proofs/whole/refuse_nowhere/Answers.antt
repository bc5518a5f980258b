-- `frontend::whole::refuse_nowhere`: what the list's length refuses, then by the act.
use mathlib.Core.Path.{◌≡◌, refl, sym, ap, ◌∙◌}
use mathlib.Core.Bool.{Bool, cond, ◌||◌}
use mathlib.Core.List.{List}
use Prim.Native.Nat.{ℕ}
use borrow.Author.Tests.{eq-eqb, ne_eqb}
use lib.Dec.{ltb}
use Rattle.numbers.proofs.Outcome.{code_counts}
use Rattle.hours.specs.Hours.{last_minute}
use Rattle.classes.specs.Weights.{overweight}
use Rattle.frontend.specs.declared.Act.{Act}
use Rattle.frontend.specs.declared.Act.TheVariants.{Begin, Batch, OpenRead, OpenWrite, SetValue, RequestCommit, LoadClasses}
use Rattle.frontend.specs.declared.Ask.{Ask}
use Rattle.frontend.specs.Plan.{list_number, nowhere}
use Rattle.frontend.specs.Asked.{call_by, call_of}
use Rattle.frontend.proofs.whole.refuse_nowhere.Goals as goal

module _ (a : Ask) (l : List ℕ) where
  -- a list of the wrong length
  listed : (k : Act) (r : ℕ) → r ≡ list_number (call_by k a l) → (r ≡ 0 → ⊥) → r ≡ nowhere (call_by k a l)
  unfolding list_number nowhere call_by
  listed Begin r e h = absurd (h e)
  listed Batch r e h = simp (ne_eqb _ _ (λ z. h (e ∙ z))) e
  listed OpenRead r e h = absurd (h e)
  listed OpenWrite r e h = absurd (h e)
  listed SetValue r e h = absurd (h e)
  listed RequestCommit r e h = absurd (h e)
  listed LoadClasses r e h = simp (ne_eqb _ _ (λ z. h (e ∙ z))) e

  booked : 0 ≡ list_number (call_by Batch a l) → cond (overweight l || ltb last_minute a.minute) 3 4 ≡ nowhere (call_by Batch a l)
  unfolding list_number nowhere call_by
  booked e = simp (eq-eqb _ _ (sym e))

  others : (k : Act) → (k ≡ Begin → ⊥) → (k ≡ Batch → ⊥) → 0 ≡ list_number (call_by k a l) → 4 ≡ nowhere (call_by k a l)
  unfolding list_number nowhere call_by
  others Begin h i e = absurd (h refl)
  others Batch h i e = absurd (i refl)
  others OpenRead h i e = refl
  others OpenWrite h i e = refl
  others SetValue h i e = refl
  others RequestCommit h i e = refl
  others LoadClasses h i e = simp (eq-eqb _ _ (sym e))

-- by the act
by_act : (a : Ask) (l : List ℕ) (k : Act) (r : ℕ) → r ≡ nowhere (call_by k a l) → a.act ≡ k → r ≡ nowhere (call_of a l)
by_act a l k r e h = e ∙ ap (λ (j : Act). nowhere (call_by j a l)) (sym h)

pub returns-in-Err : goal.returns-in-Err
returns-in-Err c = let x = c.args in
    listed x.a x.list.now x.a.act _ (c.in-Err.ensures x.a) (code_counts c.in-Err.refusal)

pub returns-in-Begin : goal.returns-in-Begin
unfolding nowhere call_by
returns-in-Begin c = let x = c.args in
    by_act x.a x.list.now Begin _ c.stranger.ensures c.in-Begin.is

pub returns-in-Batch : goal.returns-in-Batch
returns-in-Batch c = let x = c.args in
    let none = c.in_default.ensures x.a ∙ ap (λ (j : Act). list_number (call_by j x.a x.list.now)) c.in-Batch.is in
    let heavy = c.either.ensures ∙ ap (λ (b : Bool). b || ltb last_minute x.a.minute) c.is_overweight.ensures in
    let own = c.stranger-in-Batch.ensures ∙ ap (λ (b : Bool). cond b 3 4) heavy in
    by_act x.a x.list.now Batch _ (own ∙ booked x.a x.list.now none) c.in-Batch.is

pub returns-in_default-act : goal.returns-in_default-act
returns-in_default-act c = let x = c.args in
    others x.a x.list.now x.a.act c.in_default-act.not-Begin c.in_default-act.not-Batch (c.in_default.ensures x.a)
