-- `image::fields::put_here_u8`: the byte at the field's place.
use native.Mathlib.Omega.{arith}
use Rattle.image.proofs.Lens.{put_at_lem, put_one}
use Rattle.image.proofs.fields.put_here_u8.Goals as goal

pub returns : goal.returns
returns c = let x = c.args in
    let p = c.place-at in
    put_at_lem x.f x.image.now x.i 1 p.result c.requires.1 p.ensures _ x.v
    (put_one x.image.now p.result x.v (omega arith))
