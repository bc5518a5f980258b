-- `frontend::whole::refuse_off`: what comes first, then by the act (Off).
use mathlib.Core.Path.{◌≡◌, refl, sym, ap, ◌∙◌}
use mathlib.Core.Bool.{Bool, cond, ◌||◌}
use mathlib.Core.List.{List}
use Prim.Native.Nat.{ℕ}
use lib.Dec.{ltb}
use Rattle.numbers.specs.Refusal.{lower}
use Rattle.numbers.proofs.Outcome.{code_counts}
use Rattle.hours.specs.Hours.{last_minute}
use Rattle.classes.specs.Weights.{overweight}
use Rattle.coordinator.specs.System.{tree}
use Rattle.coordinator.specs.Calls.{no_node, begin_of}
use Rattle.record.specs.Record.{record_of}
use Rattle.increments.specs.Deeds.{reads, writes, values}
use Rattle.frontend.specs.declared.Act.{Act}
use Rattle.frontend.specs.declared.Act.TheVariants.{Begin, Batch, OpenRead, OpenWrite, SetValue, RequestCommit, LoadClasses}
use Rattle.frontend.specs.declared.Ask.{Ask}
use Rattle.frontend.specs.Plan.{lent_number, list_number, first_number, out_of_turn_after, off_told}
use Rattle.frontend.specs.Asked.{call_by, call_of}
use Rattle.frontend.proofs.First.{lent_none, first_none, first_off, plan_off}
use Rattle.frontend.proofs.Does.{list_first}
use Rattle.frontend.proofs.Off.{off_begin, off_batch, off_edit, off_request, off_classes}
use Rattle.frontend.proofs.whole.refuse_off.Goals as goal

-- what comes first
first : (l s : List ℕ) (a : Ask) (list : List ℕ) (n m r : ℕ) → n ≡ lent_number l s → ((b : Ask) → m ≡ list_number (call_by a.act b list))
    → r ≡ lower n m → r ≡ first_number l s (call_of a list)
first l s a list n m r e f h = list_first l s (call_of a list) r n m h e (f a)

-- by the act
by_act : (l s : List ℕ) (me : ℕ) (a : Ask) (list : List ℕ) (k : Act) (r : ℕ) → first_number l s (call_of a list) ≡ 0 → a.act ≡ k
    → (first_number l s (call_by k a list) ≡ 0 → r ≡ off_told l s me (call_by k a list)) → r ≡ off_told l s me (call_of a list)
by_act l s me a list k r z h f =
    f (ap (λ (j : Act). first_number l s (call_by j a list)) (sym h) ∙ z) ∙ ap (λ (j : Act). off_told l s me (call_by j a list)) (sym h)

module _ (l s : List ℕ) (me : ℕ) (a : Ask) (list : List ℕ) where
  begun : first_number l s (call_by Begin a list) ≡ 0
      → cond (ltb last_minute a.minute) 3 (out_of_turn_after (begin_of tree (record_of l) me a.with).number) ≡ off_told l s me (call_by Begin a list)
  unfolding call_by
  begun z = sym (off_begin tree (record_of l) s me a.with a.day a.minute) ∙ plan_off l s me (call_by Begin a list) z

  booked : first_number l s (call_by Batch a list) ≡ 0 → (b : Bool) → b ≡ (overweight list || ltb last_minute a.minute)
      → cond b 3 (out_of_turn_after (begin_of tree (record_of l) me a.with).number) ≡ off_told l s me (call_by Batch a list)
  unfolding call_by list_number
  booked z b e =
      ap (λ (x : Bool). cond x 3 (out_of_turn_after (begin_of tree (record_of l) me a.with).number)) e
      ∙ sym (off_batch tree (record_of l) s me a.with a.day a.minute list (first_none l s (call_by Batch a list) z).1)
      ∙ plan_off l s me (call_by Batch a list) z

  others : (k : Act) → (k ≡ Begin → ⊥) → (k ≡ Batch → ⊥) → first_number l s (call_by k a list) ≡ 0
      → cond (no_node me) 4 5 ≡ off_told l s me (call_by k a list)
  unfolding call_by list_number
  others Begin h i z = absurd (h refl)
  others Batch h i z = absurd (i refl)
  others OpenRead h i z = sym (off_edit tree (record_of l) s me (reads a.object)) ∙ plan_off l s me (call_by OpenRead a list) z
  others OpenWrite h i z = sym (off_edit tree (record_of l) s me (writes a.object)) ∙ plan_off l s me (call_by OpenWrite a list) z
  others SetValue h i z = sym (off_edit tree (record_of l) s me (values a.object a.value)) ∙ plan_off l s me (call_by SetValue a list) z
  others RequestCommit h i z = sym (off_request tree (record_of l) s me) ∙ plan_off l s me (call_by RequestCommit a list) z
  others LoadClasses h i z =
      sym (off_classes tree (record_of l) s me list (first_none l s (call_by LoadClasses a list) z).1) ∙ plan_off l s me (call_by LoadClasses a list) z

pub returns-in-Err : goal.returns-in-Err
returns-in-Err c = let x = c.args in
    let e = first x.bytes.now x.settings.now x.a x.list.now _ _ _ c.check_lent.ensures c.check_list.ensures c.in-Err.ensures in
    first_off x.bytes.now x.settings.now x.me (call_of x.a x.list.now) _ e (code_counts c.in-Err.refusal)

pub off_begin-requires : goal.off_begin-requires
off_begin-requires c = let x = c.args in
    let e = first x.bytes.now x.settings.now x.a x.list.now _ _ _
    c.check_lent.ensures c.check_list.ensures c.in_default.ensures in
    (lent_none _ _ (first_none x.bytes.now x.settings.now (call_of x.a x.list.now) (sym e)).0).0

pub off_begin-requires-in-Batch : goal.off_begin-requires-in-Batch
off_begin-requires-in-Batch c = let x = c.args in
    let e = first x.bytes.now x.settings.now x.a x.list.now _ _ _
    c.check_lent.ensures c.check_list.ensures c.in_default.ensures in
    (lent_none _ _ (first_none x.bytes.now x.settings.now (call_of x.a x.list.now) (sym e)).0).0

pub returns-in-Begin : goal.returns-in-Begin
returns-in-Begin c = let x = c.args in
    let e = first x.bytes.now x.settings.now x.a x.list.now _ _ _
    c.check_lent.ensures c.check_list.ensures c.in_default.ensures in
    by_act x.bytes.now x.settings.now x.me x.a x.list.now Begin _ (sym e) c.in-Begin.is
    (λ z. c.off_begin.ensures ∙ begun x.bytes.now x.settings.now x.me x.a x.list.now z)

pub returns-in-Batch : goal.returns-in-Batch
returns-in-Batch c = let x = c.args in
    let e = first x.bytes.now x.settings.now x.a x.list.now _ _ _
    c.check_lent.ensures c.check_list.ensures c.in_default.ensures in
    let heavy = c.either.ensures ∙ ap (λ (b : Bool). b || ltb last_minute x.a.minute) c.is_overweight.ensures in
    by_act x.bytes.now x.settings.now x.me x.a x.list.now Batch _ (sym e) c.in-Batch.is
    (λ z. c.off_begin-in-Batch.ensures ∙ booked x.bytes.now x.settings.now x.me x.a x.list.now z _ heavy)

pub returns-in_default-act : goal.returns-in_default-act
returns-in_default-act c = let x = c.args in
    let e = first x.bytes.now x.settings.now x.a x.list.now _ _ _
    c.check_lent.ensures c.check_list.ensures c.in_default.ensures in
    c.not_yours.ensures
    ∙ others x.bytes.now x.settings.now x.me x.a x.list.now x.a.act c.in_default-act.not-Begin c.in_default-act.not-Batch (sym e)
