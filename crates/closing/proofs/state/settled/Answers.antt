-- `closing::state::settled`: by the lengths.
use mathlib.Core.Path.{sym, ap, ◌∙◌}
use mathlib.Core.Bool.{Bool, ◌&&◌}
use Rattle.closing.specs.State.{all_settled, settled}
use Rattle.closing.proofs.state.settled.Goals as goal

pub returns-then-both : goal.returns-then-both
unfolding settled
returns-then-both c = let x = c.args in
    c.all_settled.ensures
    ∙ ap (λ (b : Bool). b && all_settled x.images.now x.records.now) (sym c.if-both.true ∙ c.both.ensures)

pub returns-else-both : goal.returns-else-both
unfolding settled
returns-else-both c = let x = c.args in
    ap (λ (b : Bool). b && all_settled x.images.now x.records.now) (sym c.if-both.false ∙ c.both.ensures)
