-- `intake::fill`: blank, then the copies, then the owners.
use Rattle.image.proofs.Blanks.{blank_made}
use Rattle.intake.specs.Take.{taken_into}
use Rattle.intake.proofs.fill.Goals as goal

pub returns : goal.returns
unfolding taken_into
returns c = rw (
  c.set_owners.ensures,
  c.set_copies.ensures,
  c.blank.ensures.image,
  blank_made c.args.image.now c.requires.1,
)
