-- `report::rival`: each way through the tests computes the definition.
use Rattle.report.specs.Page.{inks, inks_append}
use Rattle.report.specs.Texts.{rival_texts}
use Rattle.report.proofs.rival.Goals as goal

pub returns : goal.returns
unfolding inks rival_texts
returns c = simp (inks_append, c.number.ensures, c.number-a.ensures, c.from.ensures, c.from-2.ensures)
