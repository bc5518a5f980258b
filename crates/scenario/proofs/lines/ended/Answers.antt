-- `scenario::lines::ended`: each way through the tests computes the definition.
use Rattle.report.specs.Page.{inks}
use Rattle.scenario.specs.Lines.{ended_texts}
use Rattle.scenario.proofs.lines.ended.Goals as goal

pub returns-then-going : goal.returns-then-going
unfolding ended_texts
returns-then-going c = simp c.if-going.true c.close.ensures

pub returns : goal.returns
unfolding ended_texts inks
returns c = simp c.if-going.false
