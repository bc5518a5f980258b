-- `hours::has_date`: each place is asked whether its date is the day.
use Rattle.std.proofs.Common.{ℕ, ◌+◌, ◌*◌, ◌∙◌, refl, ap, arith, rules, tests, eqb}
use Rattle.std.proofs.lemmas.Iterator.{YieldsList-from_range}
use Rattle.std.proofs.lemmas.Iterator.Search.{any_from_yields_List}
use Rattle.wire.specs.Decode.{items_from}
use Rattle.hours.specs.Hours.{date_at, date_size, date_count, any_of}
use Rattle.hours.proofs.Turns.{any_items}
use Rattle.hours.proofs.has_date.Goals as goal

pub returns : goal.returns
returns c = let x = c.args in
    let t = x.list.now in
    let n = c.date_count.result in
    let p = c.dates_place.result + 1 in
    any_from_yields_List (λ k. eqb x.day (date_at t (p + date_size * k))) _ _ _ c.any.ensures.ran
    (YieldsList-from_range 0 n n refl (omega arith)) (λ x b q k. search (rules, tests))
    ∙ any_items date_at date_size t (eqb x.day) p n _ c.date_count.ensures.0
    ∙ ap (λ (i : ℕ). any_of (eqb x.day) (items_from date_at date_size (date_count t) t (i + 1))) c.dates_place.ensures.0
