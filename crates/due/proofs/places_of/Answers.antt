-- `due::places_of`: going down, each object is marked with the first of the places passed that has it.
use mathlib.Core.Path.{◌≡◌, subst}
use native.Mathlib.Omega.{arith}
use borrow.Author.Rules.{rules}
use Rattle.due.proofs.Gather.{Marks, marks_start, marks_whole}
use Rattle.due.proofs.places_of.Goals as goal

pub loop-i-init : goal.loop-i-init
loop-i-init c = (search rules, marks_start c.args.objects c.args.count (search rules))

pub returns-clause-by_index : goal.returns-clause-by_index
returns-clause-by_index c = let l = c.loop-i in
    let x = c.args in
    let last : l.i ≡ 0 = omega arith in
    marks_whole l.places x.objects x.count (subst (Marks l.places x.objects x.count) last l.invariant.1)
