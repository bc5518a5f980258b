-- `intake::read::counts_ok`: the two tests on what is read.
use mathlib.Core.Path.{refl}
use native.Mathlib.Omega.{arith}
use Rattle.image.specs.Layout.{object_count, owner_count}
use Rattle.intake.specs.Pass.{shape_of}
use Rattle.intake.proofs.Places.{byte_here}
use Rattle.intake.proofs.read.counts_ok.Goals as goal

pub returns : goal.returns
returns c = let x = c.args in
    let l = x.old.now in
    let s = shape_of x.s in
    rw (
      c.both.ensures,
      byte_here object_count l 0 (omega arith) 0 _ (omega arith) refl c.get_u8.ensures,
      byte_here (owner_count s) l 0 (omega arith) _ _ (omega (arith, c.copy_place.ensures.0)) refl c.get_u8-2.ensures,
    )
