-- `report::name`: the numbers one behind another are the definition's texts.
use mathlib.Core.Path.{◌≡◌}
use mathlib.Core.List.{◌++◌}
use Rattle.report.specs.Page.{page, inks, behind}
use Rattle.report.specs.Texts.{name_texts, number_texts, for_text, dot_text, stamp_text}
use Rattle.report.proofs.name.Goals as goal

pub returns : goal.returns
unfolding name_texts
returns c = let x = c.args in
    let d = c.number-a in
    let e = c.number-b in
    let f = c.number in
    let p = page x.out.now x.at in
    let a = number_texts for_text x.h.owner in
    let b = number_texts dot_text x.h.serial in
    let q = page e.new.out e.result in
    let two : q ≡ inks p (a ++ b) = behind p (page d.new.out d.result) q a b (rw c.from.ensures at d.ensures) (rw c.from-2.ensures at e.ensures) in
    behind p q (page f.new.out f.result) (a ++ b) (number_texts stamp_text x.h.stamp) two (rw c.from-3.ensures at f.ensures)
