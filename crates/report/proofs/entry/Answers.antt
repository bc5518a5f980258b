-- `report::entry`: each way through the tests computes the definition.
use Rattle.report.specs.Page.{inks, inks_append}
use Rattle.report.specs.Texts.{entry_texts}
use Rattle.report.proofs.entry.Goals as goal

pub returns : goal.returns
unfolding entry_texts inks
returns c = simp (
  inks_append,
  c.value.ensures,
  c.number-b.ensures,
  c.mode-a.ensures,
  c.from.ensures,
)
