-- `report::message`: what the view shows, one behind another, is the definition's texts.
use mathlib.Core.Path.{◌≡◌, ap, ◌∙◌}
use mathlib.Core.List.{◌++◌}
use Rattle.report.specs.Page.{page, inks, behind}
use Rattle.report.specs.Each.{each_from}
use Rattle.report.specs.Texts.{message_texts, route_texts, name_texts, nth_entry_texts, nth_rival_texts}
use Rattle.view.specs.declared.Shown.{Shown}
use Rattle.report.proofs.message.Goals as goal

pub returns : goal.returns
unfolding message_texts
returns c = let d = c.rivals in
    let shown = c.show-s in
    let x = c.args in
    let m = x.m.now in
    let s = shown.result in
    let p = page x.out.now x.at in
    let q = page c.name-b.new.out c.name-b.result in
    let r = page c.entries-c.new.out c.entries-c.result in
    let ro = route_texts s.header s.word in
    let na = name_texts s.header in
    let es = each_from (nth_entry_texts m) s.counts.entries 0 in
    let two : q ≡ inks p (ro ++ na) = behind p (page c.route-a.new.out c.route-a.result) q ro na c.route-a.ensures c.name-b.ensures in
    let three : r ≡ inks p (ro ++ na ++ es) = behind p q r (ro ++ na) es two c.entries-c.ensures in
    behind p r (page d.new.out d.result) (ro ++ na ++ es) (each_from (nth_rival_texts m) s.counts.rivals 0) three d.ensures
    ∙ ap (λ (t : Shown). inks p (route_texts t.header t.word ++ name_texts t.header ++ each_from (nth_entry_texts m) t.counts.entries 0
    ++ each_from (nth_rival_texts m) t.counts.rivals 0)) shown.ensures
