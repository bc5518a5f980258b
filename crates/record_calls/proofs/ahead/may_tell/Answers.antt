-- `record_calls::ahead::may_tell`: a checked record has its length, and few objects.
use mathlib.Core.Path.{sym}
use Rattle.record.proofs.Stored.{readable}
use Rattle.record_calls.proofs.ahead.may_tell.Goals as goal

pub may_tell-requires : goal.may_tell-requires
may_tell-requires c = readable _ (sym c.in_ok-check.ensures)
