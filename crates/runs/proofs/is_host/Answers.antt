-- `runs::is_host`: by the kind.
use borrow.Enum.Refused.{opened}
use mathlib.Core.Path.{sym}
use Rattle.runs.proofs.Tags.{host_key}
use Rattle.runs.proofs.is_host.Goals as goal

pub returns-in_default : goal.returns-in_default
returns-in_default c = sym (host_key c.args.kind (opened c.in_default.in_default-own.keys5))
