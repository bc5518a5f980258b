-- `record::store::put_object`: the stores, one after the other.
use mathlib.Core.Path.{◌≡◌, refl}
use mathlib.Core.Bool.{Bool, true, false, cond}
use mir.Val.{bool_byte}
use Rattle.record.proofs.Stores.{object_stores}
use Rattle.record.proofs.store.put_object.Goals as goal

-- whether a value was given, as a byte
byte_is : (b : Bool) → bool_byte b ≡ cond b 1 0
byte_is true = refl
byte_is false = refl

pub returns : goal.returns
returns c = let x = c.args in
    rw (
      c.put_u64-2.ensures,
      c.put_u8-3.ensures,
      c.from.ensures,
      byte_is x.x.given,
      c.put_u64.ensures,
      c.put_u32.ensures,
      c.put_u16.ensures,
      c.put_u8-2.ensures,
      c.put_u8.ensures,
    )
    (object_stores x.x x.bytes.now x.at)
