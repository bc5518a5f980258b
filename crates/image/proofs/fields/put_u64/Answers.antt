-- `image::fields::put_u64`: the number at the field's place.
use Rattle.image.proofs.Lens.{put_at_lem}
use Rattle.image.proofs.fields.put_u64.Goals as goal

pub returns : goal.returns
returns c = let x = c.args in
    let p = c.place-at in
    put_at_lem x.f x.image.now x.i 8 p.result c.requires.1 p.ensures _ x.v
    c.put_u64.ensures
