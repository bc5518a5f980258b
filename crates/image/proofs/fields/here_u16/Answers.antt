-- `image::fields::here_u16`: the two bytes at the field's place.
use mathlib.Core.Path.{sym}
use Rattle.octets.proofs.Laws.{get_two}
use Rattle.image.proofs.Lens.{read_at}
use Rattle.image.proofs.fields.here_u16.Goals as goal

pub returns : goal.returns
returns c =
    let x = c.args in
    let p = c.place-at in
    rw (c.from.ensures, c.from-2.ensures)
    (read_at x.f x.image.now x.i 2 p.result c.requires.1 p.ensures _ (sym (get_two x.image.now p.result)))
