-- `closing::tenths::classes`: the loop puts one class after another.
use Rattle.classes.specs.Classes.{most_classes}
use Rattle.report.specs.Each.{Going}
use Rattle.closing.specs.Texts.{nth_class_texts}
use Rattle.closing.proofs.tenths.classes.Given as goal

abbrev pub invariant-loop-i : goal.invariant-loop-i
invariant-loop-i l = Going (nth_class_texts l.bytes l.settings) most_classes l.initial.out l.at l.out l.a l.i
