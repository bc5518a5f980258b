-- `record_calls::ahead::may_open`: a checked record has its length, and few objects.
use mathlib.Core.Path.{sym}
use Rattle.record.proofs.Stored.{readable}
use Rattle.record_calls.proofs.ahead.may_open.Goals as goal

pub may_open-requires : goal.may_open-requires
may_open-requires c = readable _ (sym c.in_ok-check.ensures)
