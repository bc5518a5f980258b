-- `report::row`: from its place to the next one, which lie within the bytes.
use Rattle.report.specs.Table.{words, row_at}
use Rattle.report.proofs.Rows.{row_fits}
use Rattle.report.proofs.row.Goals as goal

pub slice_bounds-text-count : goal.slice_bounds-text-count
slice_bounds-text-count c = rw (c.place-a.ensures, c.place-e.ensures) (row_fits _ c.requires).0

pub returns : goal.returns
unfolding row_at words
returns c = rw (← c.place-a.ensures, ← c.place-e.ensures) c.text.ensures

pub slice_bounds-text-start : goal.slice_bounds-text-start
slice_bounds-text-start c = rw (c.place-a.ensures, c.place-e.ensures) (row_fits _ c.requires).0

pub slice_bounds-text-end : goal.slice_bounds-text-end
slice_bounds-text-end c = rw c.place-e.ensures (row_fits _ c.requires).1
