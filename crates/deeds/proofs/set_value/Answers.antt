-- `deeds::set_value`: the object stored at its place is the record with its new value.
use mathlib.Core.Path.{sym, ◌∙◌}
use native.Mathlib.Omega.{arith}
use Rattle.octets.proofs.Laws.{Bytes}
use Rattle.coordinator.specs.State.{place_of, object_at}
use Rattle.coordinator.specs.Calls.{renewed, with_new, set_of}
use Rattle.record.specs.Record.{record_of}
use Rattle.record.proofs.OnBytes.{kept_taken}
use Rattle.record.proofs.Stored.{object_stored}
use Rattle.deeds.proofs.set_value.Goals as goal

pub returns-clause-bytes_after : goal.returns-clause-bytes_after
unfolding set_of with_new
returns-clause-bytes_after c = let x = c.args in
    let l = x.bytes.now in
    let z = sym c.in_ok-may_set.ensures.number in
    let small : Bytes l = λ j. omega (arith, c.slice_known-1.given j) in
    let y = renewed (object_at (record_of l) x.object) x.value in
    rw (
      c.put_object.ensures,
      c.object_named-x.ensures,
      c.place-p.ensures.0,
    )
    (object_stored l small c.requires (place_of (record_of l) x.object) y c.in_ok-may_set.ensures.here
    ∙ kept_taken _ 0 (record_of l) (with_new (record_of l) x.object x.value) l z)
