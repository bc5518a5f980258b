-- `image::change::strike_one`: first the readers, then the writers.
use Rattle.image.proofs.change.strike_one.Goals as goal

pub returns : goal.returns
returns c = rw (
  c.set_writers.ensures,
  c.without-w.ensures,
  c.writers.ensures,
  c.set_readers.ensures,
  c.without-r.ensures,
  c.readers.ensures,
)
