-- `image::change::free_here`: by the test; a holder that is another stays as it is.
use native.Mathlib.Omega.{arith}
use mathlib.Core.Path.{sym, ◌∙◌}
use borrow.Author.Tests.{ne_eqb}
use Rattle.image.specs.Layout.{shape, holder_field}
use Rattle.image.proofs.Lens.{with_same}
use Rattle.image.proofs.change.free_here.Goals as goal

pub returns-else-here_u8-o : goal.returns-else-here_u8-o
returns-else-here_u8-o c = let x = c.args in
    let h = c.here_u8.ensures in
    simp (ne_eqb _ _ (λ e. c.if-here_u8-o.false (h ∙ e)))
    (sym (with_same (holder_field shape) x.image.now x.t (λ j. omega (arith, c.slice_known-1.given j))))
