-- `closing::state::all_settled`: every owner is tried.
use mathlib.Core.Path.{refl, ◌∙◌}
use mathlib.Core.Bool.{Bool}
use Prim.Native.Nat.{ℕ}
use borrow.Author.Rules.{rules}
use borrow.Author.Tests.{tests}
use Rattle.std.proofs.lemmas.Iterator.{YieldsList-from_range}
use Rattle.std.proofs.lemmas.Iterator.Search.{all_from_yields_List}
use Rattle.numbers.specs.Sizes.{nodes}
use Rattle.closing.specs.State.{settled_at, all_settled}
use Rattle.closing.proofs.Loops.{each_range}
use Rattle.closing.proofs.state.all_settled.Goals as goal

pub returns : goal.returns
unfolding all_settled
returns c =
    let each_one : ℕ → Bool = settled_at c.args.images.now c.args.records.now in
    let tried = all_from_yields_List each_one _ _ c.all.result c.all.ensures.ran
    (YieldsList-from_range 0 nodes nodes refl refl) (λ x b q k. search (rules, tests)) in
    tried ∙ each_range each_one nodes
