-- `classes::is_twice`: each place is asked whether its tally stands again behind it.
use Rattle.std.proofs.Common.{◌+◌, ◌-◌, ◌∙◌, refl, arith, rules, tests}
use Rattle.std.proofs.lemmas.Iterator.{YieldsList-from_range}
use Rattle.std.proofs.lemmas.Iterator.Search.{any_from_yields_List}
use Rattle.wire.specs.Decode.{items_from}
use Rattle.classes.specs.Classes.{tally_at, tallies, has, twice}
use Rattle.classes.proofs.Laws.{again_items}
use Rattle.classes.proofs.is_twice.Goals as goal

pub returns : goal.returns
unfolding twice tallies
returns c = let t = c.args.list.now in
    let n = c.count-n.result in
    let p = c.objects_place.result + 1 in
    let q = c.objects_place.ensures.0 in
    any_from_yields_List (λ k. has (tally_at t (p + k)) (items_from tally_at 1 (n - k - 1) t (p + k + 1))) _ _ _ c.any.ensures.ran
    (YieldsList-from_range 0 n n refl (omega arith)) (λ y b q k. search (rules, tests))
    ∙ again_items t p n _ _ c.count-n.ensures.0 (omega (arith, q))
