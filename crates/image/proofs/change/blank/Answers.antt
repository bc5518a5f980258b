-- `image::change::blank`: zeros, then the counts, the holders and the authors.
use mathlib.Core.Path.{◌≡◌}
use borrow.Author.Rules.{rules}
use lib.ListN.{length, replicate}
use borrow.Author.Tests.{eq-eqb}
use Rattle.image.specs.Blank.{blank_as, blank, unheld, unwritten}
use Rattle.image.proofs.change.blank.Goals as goal

pub returns-clause-image : goal.returns-clause-image
unfolding blank blank_as unheld unwritten
returns-clause-image c =
    let e = c.if-image-ne-SIZE.false in
    let zeros : c.fill.new.self ≡ replicate (length c.args.image.now) 0 = search rules in
    simp (eq-eqb _ _ e) (rw (c.set_all-2.ensures, c.set_all.ensures, c.count.ensures, zeros, e))
