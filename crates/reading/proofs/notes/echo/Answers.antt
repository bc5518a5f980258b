-- `reading::notes::echo`: its texts one behind another.
use mathlib.Core.List.{[], ◌∷◌, ◌++◌}
use Rattle.report.specs.Page.{page, behind}
use Rattle.report.specs.Texts.{space_text, number_texts}
use Rattle.results.specs.Results.{newline}
use Rattle.reading.specs.Notes.{front_texts, echo_texts}
use Rattle.results.proofs.Chain.{last, before}
use Rattle.reading.proofs.notes.echo.Goals as goal

pub returns : goal.returns
unfolding echo_texts
returns c = let x = c.args in
    let p = page x.out.now x.at in
    let a = c.number-a in
    let b = c.text-b in
    let d = c.front-c in
    let e = c.text in
    let q = page a.new.out a.result in
    let r = page b.new.out b.result in
    let s = page d.new.out d.result in
    let t = page e.new.out e.result in
    let f = front_texts x.r.text x.r.long in
    behind p q t (number_texts [] x.r.line) (space_text ∷ (f ++ (newline ∷ []))) a.ensures
    (before q r t space_text (f ++ (newline ∷ [])) b.ensures
    (behind r s t f (newline ∷ []) d.ensures (last s t newline e.ensures)))
