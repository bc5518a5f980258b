-- `intake::read::old_copy`: field by field, each at its place.
use Rattle.image.proofs.Made.{made_copy}
use mathlib.Core.Path.{refl}
use native.Mathlib.Omega.{arith}
use Rattle.image.specs.Layout.{value_field, version_field, holder_field, readers_field, writers_field}
use Rattle.intake.specs.Take.{copy_as}
use Rattle.intake.specs.Pass.{shape_of}
use Rattle.intake.proofs.Places.{read_here, byte_here}
use Rattle.intake.proofs.read.old_copy.Goals as goal

pub returns : goal.returns
unfolding copy_as
returns c = let x = c.args in
    let l = x.old.now in
    let s = shape_of x.s in
    let k = c.requires.1 in
    let at = c.copy_place-at.ensures.0 in
    made_copy
    (read_here (value_field s) l x.t k _ _ (omega (arith, at)) c.get_u64.ensures)
    (read_here (version_field s) l x.t k _ _ (omega (arith, at)) c.get_u32.ensures)
    (byte_here (holder_field s) l x.t k _ _ (omega (arith, at)) refl c.get_u8.ensures)
    (read_here (readers_field s) l x.t k _ _ (omega (arith, at)) c.get_u16.ensures)
    (read_here (writers_field s) l x.t k _ _ (omega (arith, at)) c.get_u16-2.ensures)
    c.old_author.ensures
    c.old_author_serial.ensures
