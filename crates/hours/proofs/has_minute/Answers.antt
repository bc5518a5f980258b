-- `hours::has_minute`: each place is asked whether its window has the minute.
use Rattle.std.proofs.Common.{◌+◌, ◌*◌, ◌∙◌, refl, arith, rules, tests}
use Rattle.std.proofs.lemmas.Iterator.{YieldsList-from_range}
use Rattle.std.proofs.lemmas.Iterator.Search.{any_from_yields_List}
use Rattle.hours.specs.Hours.{window_at, window_size, in_window}
use Rattle.hours.proofs.Turns.{any_items}
use Rattle.hours.proofs.has_minute.Goals as goal

pub returns : goal.returns
returns c = let x = c.args in
    let t = x.list.now in
    let n = c.window_count.result in
    any_from_yields_List (λ k. in_window x.minute (window_at t (1 + window_size * k))) _ _ _ c.any.ensures.ran
    (YieldsList-from_range 0 n n refl (omega arith)) (λ x b q k. search (rules, tests))
    ∙ any_items window_at window_size t (in_window x.minute) 1 n _ c.window_count.ensures.0
