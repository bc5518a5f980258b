-- `image::fields::get_u32`: the number at the field's place.
use Rattle.image.proofs.Lens.{read_at}
use Rattle.image.proofs.fields.get_u32.Goals as goal

pub returns : goal.returns
returns c = let x = c.args in
    read_at x.f x.image.now x.i 4 c.place.result c.requires.1 c.place.ensures _
    c.get_u32.ensures
