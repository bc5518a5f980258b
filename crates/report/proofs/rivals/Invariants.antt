-- `report::rivals`: the loop puts one item after another.
use Rattle.report.specs.Each.{Going}
use Rattle.report.specs.Texts.{nth_rival_texts}
use Rattle.report.proofs.rivals.Given as goal

abbrev pub invariant-loop-i : goal.invariant-loop-i
invariant-loop-i l = Going (nth_rival_texts l.m) l.n l.initial.out l.at l.out l.a l.i
