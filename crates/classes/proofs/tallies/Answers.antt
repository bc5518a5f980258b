-- `classes::tallies`: each place is the tally of its class.
use Rattle.std.proofs.Common.{ℕ, rules, tests, get_or}
use Rattle.classes.specs.Classes.{most_classes, tallies}
use Rattle.classes.specs.Weights.{tallies_of}
use Rattle.classes.proofs.Laws.{made_all}
use Rattle.classes.proofs.tallies.Goals as goal

pub returns : goal.returns
unfolding tallies_of
returns c = let k = c.args.kept.now in
    made_all (λ (j : ℕ). get_or (tallies k) j 0) c.from_fn.result (λ x y q e. search (rules, tests)) most_classes c.from_fn.ensures.items
