-- `record::load::object_in`: field by field.
use mathlib.Core.Path.{ap}
use Prim.Native.Nat.{ℕ}
use lib.Dec.{eqb}
use Rattle.record.specs.Record.{object_of}
use Rattle.record.proofs.Made.{made_object}
use Rattle.record.proofs.load.object_in.Goals as goal

pub returns : goal.returns
unfolding object_of
returns c = made_object
    c.get_u8.ensures
    c.get_u8-2.ensures
    c.get_u16.ensures
    c.get_u32.ensures
    c.get_u64.ensures
    (ap (λ (n : ℕ). eqb n 1) c.get_u8-3.ensures)
    c.get_u64-2.ensures
