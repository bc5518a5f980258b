-- `closing::tenths::lines`: the loop puts one node's line after another.
use Rattle.numbers.specs.Sizes.{nodes}
use Rattle.report.specs.Each.{Going}
use Rattle.closing.specs.Texts.{nth_node_texts}
use Rattle.closing.proofs.tenths.lines.Given as goal

abbrev pub invariant-loop-n : goal.invariant-loop-n
invariant-loop-n l = Going (nth_node_texts l.records l.settings) nodes l.initial.out l.at l.out l.a l.n
