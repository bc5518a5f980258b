-- `coordinator::objects::all_settled`: what the chain answers of the objects below the count.
use Rattle.std.proofs.Common.{sym, ◌∙◌, rules, tests, arith}
use Rattle.std.proofs.lemmas.Iterator.{YieldsList-from_slice, YieldsList-from_take}
use Rattle.std.proofs.lemmas.Iterator.Search.{all_from_yields_List}
use Rattle.coordinator.specs.System.{tree}
use Rattle.coordinator.specs.State.{settled, all_settled}
use Rattle.coordinator.proofs.Firsts.{settled_all}
use Rattle.coordinator.proofs.objects.all_settled.Goals as goal

pub returns : goal.returns
unfolding all_settled
returns c =
    let x = c.args in
    all_from_yields_List (settled tree) _ _ _ c.all.ensures.ran
    (YieldsList-from_take x.count (YieldsList-from_slice x.objects (cc)) (cc))
    (λ y b q k. search (rules, tests))
    ∙ sym (settled_all tree x.count 0 x.count x.objects (omega arith))
