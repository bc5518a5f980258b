-- `image::fields::here_u8`: the byte at the field's place.
use Rattle.image.proofs.Lens.{read_at, get_one}
use Rattle.image.proofs.fields.here_u8.Goals as goal

pub returns : goal.returns
returns c = let x = c.args in
    read_at x.f x.image.now x.i 1 c.place-at.result c.requires.1 c.place-at.ensures _
    (get_one x.image.now c.place-at.result)
