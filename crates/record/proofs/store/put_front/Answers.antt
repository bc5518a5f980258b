-- `record::store::put_front`: the stores, one after the other.
use Rattle.record.proofs.Stores.{front_stores}
use Rattle.record.proofs.store.put_front.Goals as goal

pub returns : goal.returns
returns c = let x = c.args in
    rw (
      c.put_u16.ensures,
      c.put_u8-2.ensures,
      c.put_u8.ensures,
      c.put_u32-2.ensures,
      c.put_u32.ensures,
    )
    (front_stores x.serial x.timestamp x.outcome x.phase x.live x.bytes.now)
