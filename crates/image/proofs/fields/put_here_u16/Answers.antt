-- `image::fields::put_here_u16`: the two bytes at the field's place.
use mathlib.Core.Path.{refl}
use Rattle.octets.specs.Octets.{put}
use Rattle.image.proofs.Lens.{put_at_lem}
use Rattle.image.proofs.fields.put_here_u16.Goals as goal

pub returns : goal.returns
unfolding put
returns c = let x = c.args in
    let p = c.place-at in
    put_at_lem x.f x.image.now x.i 2 p.result c.requires.1 p.ensures _ x.v refl
