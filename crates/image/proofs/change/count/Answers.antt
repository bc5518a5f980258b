-- `image::change::count`: one count, then the other.
use Rattle.image.specs.Blank.{counted}
use Rattle.image.proofs.change.count.Goals as goal

pub returns : goal.returns
unfolding counted
returns c = rw (c.put_u8-2.ensures, c.put_u8.ensures)
