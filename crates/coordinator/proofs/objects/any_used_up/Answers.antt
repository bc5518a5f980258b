-- `coordinator::objects::any_used_up`: what the chain answers of the objects below the count.
use Rattle.std.proofs.Common.{sym, ◌∙◌, rules, tests, arith}
use Rattle.std.proofs.lemmas.Iterator.{YieldsList-from_slice, YieldsList-from_take}
use Rattle.std.proofs.lemmas.Iterator.Search.{any_from_yields_List}
use Rattle.coordinator.specs.State.{any_used_up}
use Rattle.coordinator.proofs.Firsts.{used_up, used_up_any}
use Rattle.coordinator.proofs.objects.any_used_up.Goals as goal

pub returns : goal.returns
unfolding any_used_up
returns c =
    let x = c.args in
    any_from_yields_List used_up _ _ _ c.any.ensures.ran
    (YieldsList-from_take x.count (YieldsList-from_slice x.objects (cc)) (cc))
    (λ y b q k. search (rules, tests))
    ∙ sym (used_up_any x.count 0 x.count x.objects (omega arith))
