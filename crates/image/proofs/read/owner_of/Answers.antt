-- `image::read::owner_of`: field by field.
use Rattle.image.specs.Layout.{owner_of}
use Rattle.image.proofs.Made.{made_owner}
use Rattle.image.proofs.read.owner_of.Goals as goal

pub returns : goal.returns
unfolding owner_of
returns c = made_owner c.serial.ensures c.state.ensures c.stamp.ensures
