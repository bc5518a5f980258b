-- `hours::windows_ok`: each place is asked whether its window is one.
use Rattle.std.proofs.Common.{◌+◌, ◌*◌, ◌∙◌, refl, arith, rules, tests}
use Rattle.std.proofs.lemmas.Iterator.{YieldsList-from_range}
use Rattle.std.proofs.lemmas.Iterator.Search.{all_from_yields_List}
use Rattle.hours.specs.Hours.{window_at, window_size, window_ok}
use Rattle.hours.proofs.Turns.{all_items}
use Rattle.hours.proofs.windows_ok.Goals as goal

pub returns : goal.returns
returns c = let t = c.args.list.now in
    let n = c.window_count.result in
    all_from_yields_List (λ k. window_ok (window_at t (1 + window_size * k))) _ _ _ c.all.ensures.ran (YieldsList-from_range 0 n n refl (omega arith))
    (λ x b q k. search (rules, tests))
    ∙ all_items window_at window_size t window_ok 1 n _ c.window_count.ensures.0
