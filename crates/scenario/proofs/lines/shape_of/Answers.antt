-- `scenario::lines::shape_of`: by the kind.
use borrow.Enum.Refused.{opened}
use mathlib.Core.Path.{sym}
use Rattle.scenario.specs.Lines.{shape_of}
use Rattle.scenario.proofs.Tags.{other_key}
use Rattle.scenario.proofs.lines.shape_of.Goals as goal

pub returns-in-LoadClasses : goal.returns-in-LoadClasses
unfolding shape_of
returns-in-LoadClasses c = simp c.in-LoadClasses.is

pub returns-in-Batch : goal.returns-in-Batch
unfolding shape_of
returns-in-Batch c = simp c.in-Batch.is

pub returns-in_default : goal.returns-in_default
returns-in_default c = sym (other_key c.args.kind (opened c.in_default.in_default-own.keys3))
