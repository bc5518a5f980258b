-- `report::route`: the word and the numbers one behind another are the definition's texts.
use Rattle.report.specs.Page.{inks, inks_append}
use Rattle.report.specs.Texts.{route_texts}
use Rattle.report.proofs.route.Goals as goal

pub returns : goal.returns
unfolding route_texts inks
returns c = simp (inks_append, c.number.ensures, c.number-b.ensures, c.kind_word-a.ensures, c.from.ensures, c.from-2.ensures)
