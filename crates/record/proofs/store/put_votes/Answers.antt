-- `record::store::put_votes`: the stores, one after the other.
use Rattle.record.proofs.Stores.{vote_stores}
use Rattle.record.proofs.store.put_votes.Goals as goal

pub returns : goal.returns
returns c = let x = c.args in
    rw (
      c.put_u16-3.ensures,
      c.put_u16-2.ensures,
      c.put_u16.ensures,
    )
    (vote_stores x.participants x.yes x.done x.bytes.now)
