-- `record_calls::ahead::may_set`: a checked record has its length, and few objects.
use mathlib.Core.Path.{sym}
use Rattle.record.proofs.Stored.{readable}
use Rattle.record_calls.proofs.ahead.may_set.Goals as goal

pub may_set-requires : goal.may_set-requires
may_set-requires c = readable _ (sym c.in_ok-check.ensures)
