-- `image::change::strike_here`: first the readers, then the writers.
use Rattle.image.proofs.change.strike_here.Goals as goal

pub returns : goal.returns
returns c = rw (
  c.put_here_u16-2.ensures,
  c.without-w.ensures,
  c.here_u16-2.ensures,
  c.put_here_u16.ensures,
  c.without-r.ensures,
  c.here_u16.ensures,
)
