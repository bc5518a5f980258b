-- `results::answers::refusal`: its texts one behind another.
use mathlib.Core.Path.{ap, ◌∙◌}
use Prim.Native.Nat.{ℕ}
use mathlib.Core.List.{[], ◌∷◌}
use Rattle.report.specs.Page.{page, inks, behind}
use Rattle.report.specs.Texts.{space_text, number_texts, word_of_number}
use Rattle.results.specs.Results.{newline, indent, refusal_texts}
use Rattle.results.proofs.Chain.{last, before}
use Rattle.results.proofs.answers.refusal.Goals as goal

pub returns : goal.returns
unfolding refusal_texts
returns c = let x = c.args in
    let p = page x.out.now x.at in
    let a = c.number-x in
    let b = c.text-y in
    let d = c.word-z in
    let e = c.text in
    let q = page a.new.out a.result in
    let r = page b.new.out b.result in
    let s = page d.new.out d.result in
    let t = page e.new.out e.result in
    let w = a.ensures ∙ ap (λ (k : ℕ). inks p (number_texts indent k)) c.from.ensures in
    behind p q t (number_texts indent x.n) (space_text ∷ word_of_number x.n ∷ newline ∷ []) w
    (before q r t space_text (word_of_number x.n ∷ newline ∷ []) b.ensures
    (before r s t (word_of_number x.n) (newline ∷ []) d.ensures (last s t newline e.ensures)))
