-- `script::numbers_fit`: each number is asked with its place.
use Rattle.std.proofs.Common.{◌∙◌, rules, tests}
use Rattle.std.proofs.lemmas.Iterator.{YieldsList-from_slice}
use Rattle.std.proofs.lemmas.Iterator.Consumers.{YieldsList-from_enumerate}
use Rattle.std.proofs.lemmas.Iterator.Search.{all_from_yields_List}
use Rattle.script.proofs.Laws.{fits_at, all_fit}
use Rattle.script.proofs.naming.numbers_fit.Goals as goal

pub returns : goal.returns
returns c = let s = c.args.s in
    all_from_yields_List (fits_at s.word) _ _ _ c.all.ensures.ran (YieldsList-from_enumerate (YieldsList-from_slice s.numbers cc) cc)
    (λ x b q k. search (rules, tests))
    ∙ all_fit s.word s.numbers 0
