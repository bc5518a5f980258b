-- `closing::copies::copy`: the numbers one behind another are the definition's texts.
use mathlib.Core.Path.{◌≡◌}
use mathlib.Core.List.{◌++◌}
use Rattle.report.specs.Page.{page, inks, behind}
use Rattle.report.specs.Texts.{number_texts, value_texts, version_text, value_text}
use Rattle.closing.specs.Texts.{object_text, nodes_text, copy_texts}
use Rattle.closing.proofs.copies.copy.Goals as goal

pub returns : goal.returns
unfolding copy_texts
returns c = let x = c.args in
    let d = c.number-c in
    let e = c.number-d in
    let f = c.value-e in
    let g = c.number in
    let p = page x.out.now x.at in
    let q = page e.new.out e.result in
    let r = page f.new.out f.result in
    let one = number_texts object_text x.t in
    let two = number_texts version_text x.b.version in
    let three = value_texts value_text x.b.value in
    let d_text = rw c.from.ensures at d.ensures in
    let e_text = rw c.from-2.ensures at e.ensures in
    let g_text = rw c.from-3.ensures at g.ensures in
    let a : q ≡ inks p (one ++ two) = behind p (page d.new.out d.result) q one two d_text e_text in
    let b : r ≡ inks p (one ++ two ++ three) = behind p q r (one ++ two) three a f.ensures in
    behind p r (page g.new.out g.result) (one ++ two ++ three) (number_texts nodes_text x.b.nodes) b g_text
