-- `report::word`: the row of the number is its word.
use Rattle.report.proofs.Rows.{number_row}
use borrow.Author.Rules.{rules}
use Rattle.report.proofs.word.Goals as goal

pub returns : goal.returns
returns c = rw (← number_row c.args.n (search rules), ← c.capped.ensures.0) c.row.ensures
