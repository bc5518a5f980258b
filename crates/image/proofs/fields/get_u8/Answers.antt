-- `image::fields::get_u8`: the byte at the field's place.
use mathlib.Core.Path.{◌∙◌}
use Rattle.image.proofs.Lens.{read_at, get_one}
use Rattle.image.proofs.fields.get_u8.Goals as goal

pub returns : goal.returns
returns c = let x = c.args in
    read_at x.f x.image.now x.i 1 c.place.result c.requires.1 c.place.ensures _
    (c.get_u8.ensures ∙ get_one x.image.now c.place.result)
