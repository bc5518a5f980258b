-- `quorum::in_hall`: one level of the definition, over the count of three leaves.
use mathlib.Core.Path.{ap, ◌∙◌}
use Prim.Native.Nat.{ℕ, ◌*◌, ◌-◌}
use Rattle.mask.specs.Mask.{contains}
use Rattle.quorum.proofs.Threes.{two_in_hall}
use Rattle.quorum.proofs.in_hall.Goals as goal

pub returns : goal.returns
returns c = let a = c.args in
    let two = c.has-2.ensures ∙ ap (λ (n : ℕ). contains n (3 * a.hall - 2)) c.requires.2 ∙ two_in_hall a.m a.hall c.requires.0 c.requires.1 in
    rw (c.rooted_by.ensures, two, c.has.ensures)
