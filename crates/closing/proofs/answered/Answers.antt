-- `closing::answered`: the label, and the word of the answer.
use mathlib.Core.Path.{ap, sym, ◌∙◌}
use mathlib.Core.Bool.{Bool, cond}
use mathlib.Core.List.{[], ◌∷◌}
use Rattle.report.specs.Page.{Page, page, ink, inks}
use Rattle.closing.specs.Texts.{yes_text, no_text, answer_texts}
use Rattle.closing.proofs.answered.Goals as goal

pub returns-then-said : goal.returns-then-said
unfolding inks answer_texts
returns-then-said c = let x = c.args in
    c.text.ensures ∙ ap (λ (q : Page). ink q yes_text) c.text-a.ensures
    ∙ ap (λ (s : Bool). inks (page x.out.now x.at) (x.label.now ∷ cond s yes_text no_text ∷ []))
    (sym c.if-said.true)

pub returns : goal.returns
unfolding inks answer_texts
returns c = let x = c.args in
    c.text-2.ensures ∙ ap (λ (q : Page). ink q no_text) c.text-a.ensures
    ∙ ap (λ (s : Bool). inks (page x.out.now x.at) (x.label.now ∷ cond s yes_text no_text ∷ []))
    (sym c.if-said.false)
