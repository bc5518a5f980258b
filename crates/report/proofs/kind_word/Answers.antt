-- `report::kind_word`: the row of the kind is its word.
use Rattle.report.proofs.Rows.{kind_row_lem}
use borrow.Author.Rules.{rules}
use Rattle.report.proofs.kind_word.Goals as goal

pub returns : goal.returns
returns c = rw (← kind_row_lem c.args.kind c.args.word (search rules), ← c.kind_row.ensures.0) c.row.ensures
