-- `frontend::whole::front`: by the act; each branch is its call, and what that leaves alone is as it was (Alone).
use mathlib.Core.Path.{◌≡◌, sym, ap, ◌∙◌}
use mathlib.Core.List.{List}
use Prim.Native.Nat.{ℕ}
use native.Mathlib.Omega.{arith}
use Rattle.octets.proofs.Laws.{Bytes}
use Rattle.increments.specs.Deeds.{reads, writes, values}
use Rattle.record.specs.declared.Called.{Called}
use Rattle.frontend.specs.declared.Act.{Act}
use Rattle.frontend.specs.declared.Act.TheVariants.{Begin, Batch, OpenRead, OpenWrite, SetValue, RequestCommit, LoadClasses}
use Rattle.frontend.specs.declared.Ask.{Ask}
use Rattle.frontend.specs.Plan.{front_told, front_record, front_settings}
use Rattle.frontend.specs.Asked.{call_by}
use Rattle.frontend.proofs.Alone.{edit_alone, request_alone, classes_alone}
use Rattle.frontend.proofs.whole.front.Goals as goal

-- what an act does
abbrev Done : List ℕ → List ℕ → ℕ → Ask → List ℕ → Called → List ℕ → List ℕ → Act → Type 0
Done l s me a list r l' s' k =
    (r ≡ front_told l s me (call_by k a list)) × ((l' ≡ front_record l s me (call_by k a list)) × (s' ≡ front_settings l s me (call_by k a list)))

by_act : (l s : List ℕ) (me : ℕ) (a : Ask) (list : List ℕ) (r : Called) (l' s' : List ℕ) (k : Act) → a.act ≡ k
    → Done l s me a list r l' s' k → Done l s me a list r l' s' a.act
by_act l s me a list r l' s' k h d = (
  d.0 ∙ ap (λ (j : Act). front_told l s me (call_by j a list)) (sym h),
  (d.1.0 ∙ ap (λ (j : Act). front_record l s me (call_by j a list)) (sym h), d.1.1 ∙ ap (λ (j : Act). front_settings l s me (call_by j a list)) (sym h)),
)

pub returns-in-Begin-clause-value : goal.returns-in-Begin-clause-value
unfolding call_by
returns-in-Begin-clause-value c = let x = c.args in
    let e = c.begin.ensures in (by_act x.bytes.now x.settings.now x.me x.a x.list.now _ _ _ Begin c.in-Begin.is (e.value, (e.bytes_after, e.settings_after))).0

pub returns-in-Begin-clause-bytes_after : goal.returns-in-Begin-clause-bytes_after
unfolding call_by
returns-in-Begin-clause-bytes_after c = let x = c.args in
    let e = c.begin.ensures in (by_act x.bytes.now x.settings.now x.me x.a x.list.now _ _ _ Begin c.in-Begin.is
    (e.value, (e.bytes_after, e.settings_after))).1.0

pub returns-in-Begin-clause-settings_after : goal.returns-in-Begin-clause-settings_after
unfolding call_by
returns-in-Begin-clause-settings_after c = let x = c.args in
    let e = c.begin.ensures in (by_act x.bytes.now x.settings.now x.me x.a x.list.now _ _ _ Begin c.in-Begin.is
    (e.value, (e.bytes_after, e.settings_after))).1.1

pub returns-in-Batch-clause-value : goal.returns-in-Batch-clause-value
unfolding call_by
returns-in-Batch-clause-value c = let x = c.args in
    let e = c.batch.ensures in (by_act x.bytes.now x.settings.now x.me x.a x.list.now _ _ _ Batch c.in-Batch.is (e.value, (e.bytes_after, e.settings_after))).0

pub returns-in-Batch-clause-bytes_after : goal.returns-in-Batch-clause-bytes_after
unfolding call_by
returns-in-Batch-clause-bytes_after c = let x = c.args in
    let e = c.batch.ensures in (by_act x.bytes.now x.settings.now x.me x.a x.list.now _ _ _ Batch c.in-Batch.is
    (e.value, (e.bytes_after, e.settings_after))).1.0

pub returns-in-Batch-clause-settings_after : goal.returns-in-Batch-clause-settings_after
unfolding call_by
returns-in-Batch-clause-settings_after c = let x = c.args in
    let e = c.batch.ensures in (by_act x.bytes.now x.settings.now x.me x.a x.list.now _ _ _ Batch c.in-Batch.is
    (e.value, (e.bytes_after, e.settings_after))).1.1

pub returns-in-OpenRead-clause-value : goal.returns-in-OpenRead-clause-value
unfolding call_by
returns-in-OpenRead-clause-value c = let x = c.args in
    let e = c.open_read.ensures in (by_act x.bytes.now x.settings.now x.me x.a x.list.now _ _ _ OpenRead c.in-OpenRead.is
    (e.value, (e.bytes_after, edit_alone x.bytes.now x.settings.now x.me (reads x.a.object)))).0

pub returns-in-OpenRead-clause-bytes_after : goal.returns-in-OpenRead-clause-bytes_after
unfolding call_by
returns-in-OpenRead-clause-bytes_after c = let x = c.args in
    let e = c.open_read.ensures in (by_act x.bytes.now x.settings.now x.me x.a x.list.now _ _ _ OpenRead c.in-OpenRead.is
    (e.value, (e.bytes_after, edit_alone x.bytes.now x.settings.now x.me (reads x.a.object)))).1.0

pub returns-in-OpenRead-clause-settings_after : goal.returns-in-OpenRead-clause-settings_after
unfolding call_by
returns-in-OpenRead-clause-settings_after c = let x = c.args in
    let e = c.open_read.ensures in (by_act x.bytes.now x.settings.now x.me x.a x.list.now _ _ _ OpenRead c.in-OpenRead.is
    (e.value, (e.bytes_after, edit_alone x.bytes.now x.settings.now x.me (reads x.a.object)))).1.1

pub returns-in-OpenWrite-clause-value : goal.returns-in-OpenWrite-clause-value
unfolding call_by
returns-in-OpenWrite-clause-value c = let x = c.args in
    let e = c.open_write.ensures in (by_act x.bytes.now x.settings.now x.me x.a x.list.now _ _ _ OpenWrite c.in-OpenWrite.is
    (e.value, (e.bytes_after, edit_alone x.bytes.now x.settings.now x.me (writes x.a.object)))).0

pub returns-in-OpenWrite-clause-bytes_after : goal.returns-in-OpenWrite-clause-bytes_after
unfolding call_by
returns-in-OpenWrite-clause-bytes_after c = let x = c.args in
    let e = c.open_write.ensures in (by_act x.bytes.now x.settings.now x.me x.a x.list.now _ _ _ OpenWrite c.in-OpenWrite.is
    (e.value, (e.bytes_after, edit_alone x.bytes.now x.settings.now x.me (writes x.a.object)))).1.0

pub returns-in-OpenWrite-clause-settings_after : goal.returns-in-OpenWrite-clause-settings_after
unfolding call_by
returns-in-OpenWrite-clause-settings_after c = let x = c.args in
    let e = c.open_write.ensures in (by_act x.bytes.now x.settings.now x.me x.a x.list.now _ _ _ OpenWrite c.in-OpenWrite.is
    (e.value, (e.bytes_after, edit_alone x.bytes.now x.settings.now x.me (writes x.a.object)))).1.1

pub returns-in-SetValue-clause-value : goal.returns-in-SetValue-clause-value
unfolding call_by
returns-in-SetValue-clause-value c = let x = c.args in
    let e = c.set_value.ensures in (by_act x.bytes.now x.settings.now x.me x.a x.list.now _ _ _ SetValue c.in-SetValue.is
    (e.value, (e.bytes_after, edit_alone x.bytes.now x.settings.now x.me (values x.a.object x.a.value)))).0

pub returns-in-SetValue-clause-bytes_after : goal.returns-in-SetValue-clause-bytes_after
unfolding call_by
returns-in-SetValue-clause-bytes_after c = let x = c.args in
    let e = c.set_value.ensures in (by_act x.bytes.now x.settings.now x.me x.a x.list.now _ _ _ SetValue c.in-SetValue.is
    (e.value, (e.bytes_after, edit_alone x.bytes.now x.settings.now x.me (values x.a.object x.a.value)))).1.0

pub returns-in-SetValue-clause-settings_after : goal.returns-in-SetValue-clause-settings_after
unfolding call_by
returns-in-SetValue-clause-settings_after c = let x = c.args in
    let e = c.set_value.ensures in (by_act x.bytes.now x.settings.now x.me x.a x.list.now _ _ _ SetValue c.in-SetValue.is
    (e.value, (e.bytes_after, edit_alone x.bytes.now x.settings.now x.me (values x.a.object x.a.value)))).1.1

pub returns-in-RequestCommit-clause-value : goal.returns-in-RequestCommit-clause-value
unfolding call_by
returns-in-RequestCommit-clause-value c = let x = c.args in
    let e = c.request_commit.ensures in (by_act x.bytes.now x.settings.now x.me x.a x.list.now _ _ _ RequestCommit c.in-RequestCommit.is
    (e.value, (e.bytes_after, request_alone x.bytes.now x.settings.now x.me))).0

pub returns-in-RequestCommit-clause-bytes_after : goal.returns-in-RequestCommit-clause-bytes_after
unfolding call_by
returns-in-RequestCommit-clause-bytes_after c = let x = c.args in
    let e = c.request_commit.ensures in (by_act x.bytes.now x.settings.now x.me x.a x.list.now _ _ _ RequestCommit c.in-RequestCommit.is
    (e.value, (e.bytes_after, request_alone x.bytes.now x.settings.now x.me))).1.0

pub returns-in-RequestCommit-clause-settings_after : goal.returns-in-RequestCommit-clause-settings_after
unfolding call_by
returns-in-RequestCommit-clause-settings_after c = let x = c.args in
    let e = c.request_commit.ensures in (by_act x.bytes.now x.settings.now x.me x.a x.list.now _ _ _ RequestCommit c.in-RequestCommit.is
    (e.value, (e.bytes_after, request_alone x.bytes.now x.settings.now x.me))).1.1

pub returns-in-LoadClasses-clause-value : goal.returns-in-LoadClasses-clause-value
unfolding call_by
returns-in-LoadClasses-clause-value c = let x = c.args in
    let small : Bytes x.bytes.now = λ j. omega (arith, c.slice_known-1.given j) in
    let e = c.load_classes.ensures in (by_act x.bytes.now x.settings.now x.me x.a x.list.now _ _ _ LoadClasses c.in-LoadClasses.is
    (e.value, (classes_alone x.bytes.now x.settings.now x.me small x.list.now, e.settings_after))).0

pub returns-in-LoadClasses-clause-bytes_after : goal.returns-in-LoadClasses-clause-bytes_after
unfolding call_by
returns-in-LoadClasses-clause-bytes_after c = let x = c.args in
    let small : Bytes x.bytes.now = λ j. omega (arith, c.slice_known-1.given j) in
    let e = c.load_classes.ensures in (by_act x.bytes.now x.settings.now x.me x.a x.list.now _ _ _ LoadClasses c.in-LoadClasses.is
    (e.value, (classes_alone x.bytes.now x.settings.now x.me small x.list.now, e.settings_after))).1.0

pub returns-in-LoadClasses-clause-settings_after : goal.returns-in-LoadClasses-clause-settings_after
unfolding call_by
returns-in-LoadClasses-clause-settings_after c = let x = c.args in
    let small : Bytes x.bytes.now = λ j. omega (arith, c.slice_known-1.given j) in
    let e = c.load_classes.ensures in (by_act x.bytes.now x.settings.now x.me x.a x.list.now _ _ _ LoadClasses c.in-LoadClasses.is
    (e.value, (classes_alone x.bytes.now x.settings.now x.me small x.list.now, e.settings_after))).1.1
