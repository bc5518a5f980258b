-- `deeds::open`: the pieces stored over a record are the record with one object more.
use mathlib.Core.Path.{sym, ◌∙◌}
use native.Mathlib.Omega.{arith}
use Rattle.octets.proofs.Laws.{Bytes}
use Rattle.coordinator.specs.Calls.{opened, open_of}
use Rattle.record.specs.Record.{record_of}
use Rattle.record.proofs.OnBytes.{kept_taken}
use Rattle.deeds.proofs.Stored.{opened_stored}
use Rattle.deeds.proofs.open.Goals as goal

pub returns-clause-bytes_after : goal.returns-clause-bytes_after
unfolding open_of record_of
returns-clause-bytes_after c = let x = c.args in
    let l = x.bytes.now in
    let z = sym c.in_ok-may_open.ensures.number in
    let room = c.in_ok-may_open.ensures.room in
    let small : Bytes l = λ j. omega (arith, c.slice_known-1.given j) in
    rw (
      c.put_object.ensures,
      c.put_quorum.ensures,
      c.count-n.ensures,
      c.join-contacted.ensures,
      c.get_u16.ensures,
      c.get_u16-quorum.ensures,
    )
    (opened_stored l small c.requires x.object x.mode room ∙ kept_taken _ 0 (record_of l) (opened (record_of l) x.object x.mode) l z)
