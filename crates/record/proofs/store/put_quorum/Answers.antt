-- `record::store::put_quorum`: the stores, one after the other.
use Rattle.record.proofs.Stores.{quorum_stores}
use Rattle.record.proofs.store.put_quorum.Goals as goal

pub returns : goal.returns
returns c = let x = c.args in
    rw (
      c.put_u8.ensures,
      c.low.ensures,
      c.put_u16-2.ensures,
      c.put_u16.ensures,
    )
    (quorum_stores x.quorum x.contacted x.count x.bytes.now)
