-- `image::write::set_author`: the owner, then the serial.
use Rattle.image.proofs.write.set_author.Goals as goal

pub returns : goal.returns
returns c = rw (c.put_u32.ensures, c.put_u8.ensures)
