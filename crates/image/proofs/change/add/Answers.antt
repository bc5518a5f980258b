-- `image::change::add`: the mask read, joined with the owner, put back.
use Rattle.image.proofs.change.add.Goals as goal

pub returns : goal.returns
returns c = let m = c.join-m in
    let own = c.single in
    let old = c.get_u16 in
    rw (c.put_u16.ensures, m.ensures, own.ensures, old.ensures)
