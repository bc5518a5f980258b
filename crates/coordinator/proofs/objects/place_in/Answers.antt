-- `coordinator::objects::place_in`: the first of the objects below the count that is the object.
use Rattle.std.proofs.Common.{ℕ, ◌+◌, ◌≡◌, Bool, true, false, cond, Some, None, refl, sym, ap, ◌∙◌, arith, rules, tests, eqb}
use Rattle.std.specs.Option.{unwrap_or}
use Rattle.std.proofs.lemmas.Iterator.{YieldsList-from_slice, YieldsList-from_take}
use Rattle.std.proofs.lemmas.Iterator.Search.{position_from_yields_List}
use Rattle.numbers.specs.Sizes.{most_open}
use Rattle.coordinator.specs.State.{place_in}
use Rattle.coordinator.proofs.Firsts.{place_first}
use Rattle.coordinator.proofs.objects.place_in.Goals as goal

or_else : (t : Bool) (p d : ℕ) → unwrap_or (cond t (Some p) None) d ≡ cond t (0 + p) d
or_else true p d = omega arith
or_else false p d = refl

pub returns : goal.returns
unfolding place_in
returns c =
    let x = c.args in
    let p =
    position_from_yields_List (λ y. eqb y.object x.object) _ _ c.position.result c.position.ensures.ran
    (YieldsList-from_take x.count (YieldsList-from_slice x.objects (cc)) (cc))
    (λ y b q k. search (rules, tests)) in
    c.unwrap_or.ensures ∙ ap (λ r. unwrap_or r most_open) p ∙ or_else _ _ most_open
    ∙ sym (place_first x.object x.count 0 x.count x.objects (omega arith))
