-- `record::verify::places_meet`: each place below the count is tested.
use Rattle.std.proofs.Common.{sym, ◌∙◌, arith, rules, tests}
use Rattle.std.proofs.lemmas.Iterator.{YieldsList-from_range}
use Rattle.std.proofs.lemmas.Iterator.Search.{all_from_yields_List}
use Rattle.record.specs.Valid.{place_ok}
use Rattle.record.proofs.Valid.{below_listed}
use Rattle.record.proofs.verify.places_meet.Goals as goal

pub returns : goal.returns
returns c =
    let x = c.args in
    all_from_yields_List (place_ok x.bytes.now) _ _ _ c.all.ensures.ran
    (YieldsList-from_range 0 x.count x.count (cc) (omega arith))
    (λ i b q k. search (rules, tests))
    ∙ sym (below_listed (place_ok x.bytes.now) x.count)
