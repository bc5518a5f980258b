-- `classes::all_light`: each place is asked whether its weight is one.
use Rattle.std.proofs.Common.{◌+◌, ◌*◌, ◌∙◌, refl, arith, rules, tests, ltb}
use Rattle.std.proofs.lemmas.Iterator.{YieldsList-from_range}
use Rattle.std.proofs.lemmas.Iterator.Search.{all_from_yields_List}
use Rattle.octets.specs.Octets.{get}
use Rattle.classes.specs.Classes.{too_heavy}
use Rattle.classes.specs.Weights.{weights}
use Rattle.classes.proofs.Laws.{all_items}
use Rattle.classes.proofs.all_light.Goals as goal

pub returns : goal.returns
unfolding weights
returns c = let t = c.args.list.now in
    let n = c.weight_count.result in
    all_from_yields_List (λ k. ltb (get 2 t (2 + 2 * k)) too_heavy) _ _ _ c.all.ensures.ran
    (YieldsList-from_range 0 n n refl (omega arith)) (λ x b q k. search (rules, tests))
    ∙ all_items (get 2) 2 t (λ k. 2 + 2 * k) (λ j. omega arith) (λ u. ltb u too_heavy) n _ _ c.weight_count.ensures.0 (omega arith)
