-- `classes::has`: each place is asked whether the tally stands there.
use Rattle.std.proofs.Common.{◌+◌, ◌∙◌, refl, arith, rules, tests, eqb}
use Rattle.std.proofs.lemmas.Iterator.{YieldsList-from_range}
use Rattle.std.proofs.lemmas.Iterator.Search.{any_from_yields_List}
use Rattle.classes.specs.Classes.{tally_at}
use Rattle.classes.proofs.Laws.{has_items}
use Rattle.classes.proofs.has.Goals as goal

pub returns : goal.returns
returns c = let x = c.args in
    let t = x.list.now in
    any_from_yields_List (λ k. eqb (tally_at t (x.from + k)) x.tally) _ _ _ c.any.ensures.ran
    (YieldsList-from_range 0 x.n x.n refl (omega arith)) (λ y b q k. search (rules, tests))
    ∙ has_items tally_at 1 t (λ k. x.from + k) (λ j. omega arith) x.tally x.n _ (omega arith)
