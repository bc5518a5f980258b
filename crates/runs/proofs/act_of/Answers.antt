-- `runs::act_of`: by the kind; every other kind has the last act.
use borrow.Enum.Refused.{opened}
use mathlib.Core.Path.{sym}
use Rattle.runs.proofs.Tags.{last_key}
use Rattle.runs.proofs.act_of.Goals as goal

pub returns-in_default : goal.returns-in_default
returns-in_default c = sym (last_key c.args.kind (opened c.in_default.in_default-own.keys7))
