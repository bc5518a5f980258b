-- `closing::copies::objects`: the loop puts one object's line after another.
use Prim.Native.Nat.{ℕ}
use native.Mathlib.Omega.{arith}
use mathlib.Core.Path.{ap₂, ◌∙◌}
use Rattle.numbers.specs.Sizes.{objects}
use Rattle.report.specs.Page.{page, inks}
use Rattle.report.specs.Each.{one_more, all_put}
use Rattle.closing.specs.declared.Best.{Best}
use Rattle.closing.specs.Texts.{object_texts, nth_object_texts, objects_texts}
use Rattle.closing.proofs.copies.objects.Goals as goal

pub loop-t-preserved : goal.loop-t-preserved
loop-t-preserved c = let l = c.loop-t in
    let x = c.args in
    let o = c.object-a in
    let e = o.ensures ∙ ap₂ (λ (b : Best) (v : ℕ). inks (page l.out l.a) (object_texts l.t b v))
    c.newest.ensures c.value.ensures in
    one_more (nth_object_texts x.images.now x.sheet.now) objects x.out.now x.at l.out l.a l.t o.new.out o.result
    c.loop-t-test.true l.invariant e

pub returns : goal.returns
unfolding objects_texts
returns c = let l = c.loop-t in
    let x = c.args in
    all_put (nth_object_texts x.images.now x.sheet.now) objects x.out.now x.at l.out l.a l.t (omega (arith, c.loop-t-test.false))
    l.invariant
