-- `closing::copies::objects`: the loop puts one object's line after another.
use Rattle.numbers.specs.Sizes.{objects}
use Rattle.report.specs.Each.{Going}
use Rattle.closing.specs.Texts.{nth_object_texts}
use Rattle.closing.proofs.copies.objects.Given as goal

abbrev pub invariant-loop-t : goal.invariant-loop-t
invariant-loop-t l = Going (nth_object_texts l.images l.sheet) objects l.initial.out l.at l.out l.a l.t
