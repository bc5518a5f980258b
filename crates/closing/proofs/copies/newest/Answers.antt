-- `closing::copies::newest`: by the length.
use borrow.Author.Tests.{eq-eqb, ne_eqb}
use Rattle.closing.specs.Copies.{newest}
use Rattle.closing.proofs.copies.newest.Goals as goal

pub returns-then-images-eq-IMAGES : goal.returns-then-images-eq-IMAGES
unfolding newest
returns-then-images-eq-IMAGES c = simp (eq-eqb _ _ c.if-images-eq-IMAGES.true) c.newest_copy.ensures

pub returns-else-images-eq-IMAGES : goal.returns-else-images-eq-IMAGES
unfolding newest
returns-else-images-eq-IMAGES c = simp (ne_eqb _ _ c.if-images-eq-IMAGES.false)
