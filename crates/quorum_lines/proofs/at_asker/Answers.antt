-- `quorum_lines::at_asker` meets its contract, by the one test.
use mathlib.Core.Path.{sym, ◌∙◌}
use Rattle.quorum_lines.specs.Laws.{at_distance, at_asker_lem}
use Rattle.quorum_lines.proofs.at_asker.Goals as goal

pub returns-then-line-eq-NODES : goal.returns-then-line-eq-NODES
returns-then-line-eq-NODES c = c.kept.ensures ∙ sym (at_distance c.args.line c.if-line-eq-NODES.true)

pub returns : goal.returns
returns c = sym (at_asker_lem c.args.line c.if-line-eq-NODES.false)
