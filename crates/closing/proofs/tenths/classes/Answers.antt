-- `closing::tenths::classes`: the loop puts one class after another.
use native.Mathlib.Omega.{arith}
use mathlib.Core.Path.{ap, ◌∙◌}
use Rattle.classes.specs.Classes.{most_classes}
use Rattle.record.specs.declared.Called.{Called}
use Rattle.report.specs.Page.{page, inks}
use Rattle.report.specs.Each.{one_more, all_put}
use Rattle.closing.specs.Texts.{class_texts, nth_class_texts}
use Rattle.closing.proofs.tenths.classes.Goals as goal

pub loop-i-preserved : goal.loop-i-preserved
loop-i-preserved c = let l = c.loop-i in
    let x = c.args in
    let o = c.class-a in
    let e = o.ensures ∙ ap (λ (t : Called). inks (page l.out l.a) (class_texts t)) c.waiting.ensures in
    one_more (nth_class_texts x.bytes.now x.settings.now) most_classes x.out.now x.at l.out l.a l.i o.new.out o.result
    c.loop-i-test.true l.invariant e

pub returns : goal.returns
returns c = let l = c.loop-i in
    let x = c.args in
    all_put (nth_class_texts x.bytes.now x.settings.now) most_classes x.out.now x.at l.out l.a l.i
    (omega (arith, c.loop-i-test.false)) l.invariant
