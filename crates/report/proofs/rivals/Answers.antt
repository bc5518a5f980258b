-- `report::rivals`: the loop puts one item after another.
use native.Mathlib.Omega.{arith}
use mathlib.Core.Path.{ap, ◌∙◌}
use Rattle.report.specs.Page.{page, inks}
use Rattle.report.specs.Each.{none_yet, one_more, all_put}
use Rattle.report.specs.Texts.{rival_texts, nth_rival_texts}
use Rattle.view.specs.declared.Shown.{Shown}
use Rattle.report.proofs.rivals.Goals as goal

pub loop-i-init : goal.loop-i-init
loop-i-init c = let x = c.args in none_yet (nth_rival_texts x.m.now) x.n x.out.now x.at

pub loop-i-preserved : goal.loop-i-preserved
loop-i-preserved c = let l = c.loop-i in
    let x = c.args in
    let e = c.rival-a in
    one_more (nth_rival_texts x.m.now) x.n x.out.now x.at l.out l.a l.i e.new.out e.result (omega arith) l.invariant
    (e.ensures ∙ ap (λ (s : Shown). inks (page l.out l.a) (rival_texts s.rival)) c.show.ensures)

pub returns : goal.returns
returns c = let l = c.loop-i in
    let x = c.args in
    all_put (nth_rival_texts x.m.now) x.n x.out.now x.at l.out l.a l.i (omega arith) l.invariant
