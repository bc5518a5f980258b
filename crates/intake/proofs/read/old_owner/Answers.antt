-- `intake::read::old_owner`: field by field, each at its place.
use Rattle.image.proofs.Made.{made_owner}
use mathlib.Core.Path.{refl}
use native.Mathlib.Omega.{arith}
use Rattle.image.specs.Layout.{serial_field, state_field, stamp_field}
use Rattle.intake.specs.Take.{owner_as}
use Rattle.intake.specs.Pass.{shape_of}
use Rattle.intake.proofs.Places.{read_here, byte_here}
use Rattle.intake.proofs.read.old_owner.Goals as goal

pub returns : goal.returns
unfolding owner_as
returns c = let x = c.args in
    let l = x.old.now in
    let s = shape_of x.s in
    let k = c.requires.1 in
    let at = c.owner_place-at.ensures.0 in
    made_owner
    (read_here (serial_field s) l x.o k _ _ (omega (arith, at)) c.get_u32.ensures)
    (byte_here (state_field s) l x.o k _ _ (omega (arith, at)) refl c.get_u8.ensures)
    (read_here (stamp_field s) l x.o k _ _ (omega (arith, at)) c.get_u32-2.ensures)
