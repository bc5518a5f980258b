-- `lists::lead`: by the shape.
use mathlib.Core.Path.{ap, ◌∙◌}
use lib.ListN.{take}
use Rattle.lists.specs.Lists.{counted}
use Rattle.lists.proofs.Laws.{count_laid}
use Rattle.lists.proofs.lead.Goals as goal

pub returns-in-Hours-clause-bytes : goal.returns-in-Hours-clause-bytes
unfolding counted
returns-in-Hours-clause-bytes c = simp c.in-Hours.is

pub returns-in-Classes-clause-bytes : goal.returns-in-Classes-clause-bytes
unfolding counted
returns-in-Classes-clause-bytes c = simp c.in-Classes.is

pub returns-in-Weights-clause-bytes : goal.returns-in-Weights-clause-bytes
unfolding counted
returns-in-Weights-clause-bytes c = let a = c.args in
    let l = a.out.now in
    let p = c.put_u16.ensures in
    let e = c.requires in
    simp c.in-Weights.is (ap (take 2) p ∙ count_laid l a.count e.1)
