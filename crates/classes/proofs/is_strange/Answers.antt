-- `classes::is_strange`: each place is asked whether its tally is one.
use Rattle.std.proofs.Common.{◌+◌, ◌∙◌, refl, ap, not, arith, rules, tests, ltb}
use Rattle.std.proofs.lemmas.Iterator.{YieldsList-from_range}
use Rattle.std.proofs.lemmas.Iterator.Search.{all_from_yields_List}
use Rattle.numbers.specs.Sizes.{objects}
use Rattle.classes.specs.Classes.{tally_at, tallies, strange}
use Rattle.classes.proofs.Laws.{all_items}
use Rattle.classes.proofs.is_strange.Goals as goal

pub returns : goal.returns
unfolding strange tallies
returns c = let t = c.args.list.now in
    let n = c.count.result in
    let p = c.objects_place.result + 1 in
    let q = c.objects_place.ensures.0 in
    ap not (all_from_yields_List (λ k. ltb (tally_at t (p + k)) objects) _ _ _ c.all.ensures.ran
    (YieldsList-from_range 0 n n refl (omega arith)) (λ x b q k. search (rules, tests))
    ∙ all_items tally_at 1 t (λ k. p + k) (λ j. omega arith) (λ u. ltb u objects) n _ _ c.count.ensures.0 (omega (arith, q)))
