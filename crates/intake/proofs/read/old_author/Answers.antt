-- `intake::read::old_author`: read where copies have one, else by the version.
use mathlib.Core.Path.{refl, ap, ◌∙◌}
use borrow.Author.Tests.{lt-ltb, le-ltb}
use native.Mathlib.Omega.{arith}
use Rattle.image.specs.Layout.{version_field, author_field}
use Rattle.intake.specs.Take.{author_at, copy_as}
use Rattle.intake.specs.Pass.{shape_of}
use Rattle.intake.proofs.Places.{read_here, byte_here}
use Rattle.intake.proofs.read.old_author.Goals as goal

pub returns-then-s-gt-AUTHOR : goal.returns-then-s-gt-AUTHOR
unfolding copy_as
returns-then-s-gt-AUTHOR c = let x = c.args in
    let f = author_field (shape_of x.s) in
    simp (lt-ltb 17 x.s.width c.if-s-gt-AUTHOR.true)
    (byte_here f x.old.now x.t c.requires.1 _ _ (omega (arith, c.copy_place-at.ensures.0)) refl c.get_u8.ensures)

pub returns : goal.returns
unfolding copy_as
returns c = let x = c.args in
    let f = version_field (shape_of x.s) in
    simp (le-ltb 17 x.s.width c.if-s-gt-AUTHOR.false) (c.author_at.ensures ∙ ap author_at
    (read_here f x.old.now x.t c.requires.1 _ _ (omega (arith, c.copy_place-at.ensures.0)) c.get_u32.ensures))
