-- `image::verify::counts_ok`: the two tests on what is read.
use Rattle.image.proofs.verify.counts_ok.Goals as goal

pub returns : goal.returns
returns c = rw (c.both.ensures, c.get_u8.ensures, c.get_u8-2.ensures)
