-- `record::store::fill`: the pieces, one behind the other, are the bytes of the record.
use Rattle.record.proofs.Stores.{length_bytes, record_stores}
use Rattle.record.proofs.store.fill.Goals as goal

pub returns-clause-bytes_after : goal.returns-clause-bytes_after
returns-clause-bytes_after c = let x = c.args in
    let d = c.put_distances.ensures in
    let o = c.put_objects.ensures in
    let r = c.put_rivals.ensures in
    rw (
      r.bytes_after,
      c.put_votes.ensures,
      o.bytes_after,
      c.put_quorum.ensures,
      d.bytes_after,
      c.put_front.ensures,
    )
    (record_stores x.c d.list_len o.list_len r.list_len x.bytes.now)

pub returns-clause-c_len : goal.returns-clause-c_len
returns-clause-c_len c = let x = c.args in
    let d = c.put_distances.ensures in
    let o = c.put_objects.ensures in
    let r = c.put_rivals.ensures in
    length_bytes x.c d.list_len o.list_len r.list_len
