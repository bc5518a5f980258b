-- `intake::read::old_author_serial`: read where copies have one, else 0.
use borrow.Author.Tests.{lt-ltb, le-ltb}
use native.Mathlib.Omega.{arith}
use Rattle.image.specs.Layout.{author_serial_field}
use Rattle.intake.specs.Take.{copy_as}
use Rattle.intake.specs.Pass.{shape_of}
use Rattle.intake.proofs.Places.{read_here}
use Rattle.intake.proofs.read.old_author_serial.Goals as goal

pub returns-then-s-gt-AUTHOR : goal.returns-then-s-gt-AUTHOR
unfolding copy_as
returns-then-s-gt-AUTHOR c = let x = c.args in
    let f = author_serial_field (shape_of x.s) in
    simp (lt-ltb 17 x.s.width c.if-s-gt-AUTHOR.true)
    (read_here f x.old.now x.t c.requires.1 _ _ (omega (arith, c.copy_place.ensures.0)) c.get_u32.ensures)

pub returns : goal.returns
unfolding copy_as
returns c = simp (le-ltb 17 c.args.s.width c.if-s-gt-AUTHOR.false)
