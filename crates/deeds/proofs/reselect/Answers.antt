-- `deeds::reselect`: the pieces stored over a record are the record with another quorum.
use mathlib.Core.Path.{◌≡◌, sym, ap, ◌∙◌}
use Prim.Native.Nat.{ℕ}
use native.Mathlib.Omega.{arith}
use Rattle.octets.proofs.Laws.{Bytes}
use Rattle.numbers.specs.Refusal.{first_of}
use Rattle.quorum.specs.Choice.{Choice}
use Rattle.quorum.specs.Nearest.{mask_of}
use Rattle.coordinator.specs.System.{tree}
use Rattle.coordinator.specs.Calls.{reselect_refusals, reselected, reselect_of}
use Rattle.record.specs.Record.{record_of}
use Rattle.record.proofs.OnBytes.{kept_taken}
use Rattle.deeds.proofs.Stored.{reselected_stored}
use Rattle.deeds.proofs.reselect.Goals as goal

pub returns-clause-bytes_after : goal.returns-clause-bytes_after
unfolding reselect_of record_of
returns-clause-bytes_after c = let x = c.args in
    let l = x.bytes.now in
    let k = record_of l in
    let q : ℕ = mask_of (tree.nearest_read x.me x.live x.distances) in
    let near = c.nearest-chosen.ensures.value in
    let z = sym (c.in_ok-quorum.ensures.number ∙ ap (λ (m : Choice). first_of (reselect_refusals k x.me x.live m)) near) in
    let small : Bytes l = λ j. omega (arith, c.slice_known-1.given j) in
    let m = ap mask_of (sym c.in_ok-quorum.ensures.quorum ∙ near) in
    rw (
      c.put_quorum.ensures,
      c.put_distances.ensures.bytes_after,
      c.put_u16.ensures,
      c.contacted_after-contacted.ensures,
      c.get_u16.ensures,
      c.count-n.ensures,
      m,
    )
    (reselected_stored l small c.requires x.live x.distances q c.put_distances.ensures.list_len
    ∙ kept_taken _ q k (reselected k x.live x.distances q) l z)
