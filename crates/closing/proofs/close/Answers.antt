-- `closing::close`: the parts one behind another are the definition's texts.
use mathlib.Core.Path.{◌≡◌, ap₂, ◌∙◌}
use mathlib.Core.Bool.{Bool}
use mathlib.Core.List.{[], ◌∷◌, ◌++◌}
use Rattle.report.specs.Page.{page, inks, behind}
use Rattle.closing.specs.Texts.{end_text, rest_text, settled_text, objects_texts, waiting_texts, answer_texts, closing_texts}
use Rattle.closing.proofs.close.Goals as goal

pub returns : goal.returns
unfolding inks closing_texts
returns c = let x = c.args in
    let rest = c.at_rest-rest in
    let over = c.settled-over in
    let f = c.answered in
    let p = page x.out.now x.at in
    let q = page c.objects-b.new.out c.objects-b.result in
    let t = page c.waiting-w.new.out c.waiting-w.result in
    let r = page c.answered-c.new.out c.answered-c.result in
    let lines = objects_texts x.images.now x.sheet.now in
    let tenths = waiting_texts x.records.now x.settings.now in
    let third = answer_texts rest_text rest.result in
    let a : q ≡ inks p ((end_text ∷ []) ++ lines) =
    behind p (page c.text-a.new.out c.text-a.result) q (end_text ∷ []) lines c.text-a.ensures c.objects-b.ensures in
    let d : t ≡ inks p ((end_text ∷ []) ++ lines ++ tenths) = behind p q t ((end_text ∷ []) ++ lines) tenths a c.waiting-w.ensures in
    let b : r ≡ inks p ((end_text ∷ []) ++ lines ++ tenths ++ third) = behind p t r ((end_text ∷ []) ++ lines ++ tenths) third d c.answered-c.ensures in
    behind p r (page f.new.out f.result) ((end_text ∷ []) ++ lines ++ tenths ++ third) (answer_texts settled_text over.result) b f.ensures
    ∙ ap₂ (λ (s t : Bool). inks p ((end_text ∷ []) ++ lines ++ tenths ++ answer_texts rest_text s ++ answer_texts settled_text t)) rest.ensures over.ensures
