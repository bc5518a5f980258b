-- `deeds::begin`: the pieces stored over an idle record are the record of the transaction begun.
use mathlib.Core.Path.{◌≡◌, sym, ap, ◌∙◌}
use Prim.Native.Nat.{ℕ}
use native.Mathlib.Omega.{arith}
use Rattle.octets.proofs.Laws.{Bytes}
use Rattle.numbers.specs.Refusal.{first_of}
use Rattle.quorum.specs.Choice.{Choice}
use Rattle.quorum.specs.Nearest.{mask_of}
use Rattle.coordinator.specs.System.{tree}
use Rattle.coordinator.specs.Calls.{begin_refusals, begun, begin_of}
use Rattle.record.specs.Record.{record_of}
use Rattle.record.proofs.OnBytes.{kept_taken}
use Rattle.deeds.proofs.Stored.{begun_stored}
use Rattle.deeds.proofs.begin.Goals as goal

pub overflow_add-serial : goal.overflow_add-serial
unfolding record_of
overflow_add-serial c = omega (arith, c.get_u32-serial.ensures, c.in_ok-quorum.ensures.quorum.1)

pub returns-clause-bytes_after : goal.returns-clause-bytes_after
unfolding begin_of record_of
returns-clause-bytes_after c = let x = c.args in
    let l = x.bytes.now in
    let k = record_of l in
    let q : ℕ = mask_of (tree.nearest_read x.me x.w.live x.w.distances) in
    let near = c.nearest-chosen.ensures.value in
    let z = sym (c.in_ok-quorum.ensures.number ∙ ap (λ (m : Choice). first_of (begin_refusals k x.me x.w m)) near) in
    let small : Bytes l = λ j. omega (arith, c.slice_known-1.given j) in
    let m = ap mask_of (sym c.in_ok-quorum.ensures.quorum.0 ∙ near) in
    rw (
      c.put_quorum.ensures,
      c.put_distances.ensures.bytes_after,
      c.put_front.ensures,
      c.get_u8-outcome.ensures,
      c.get_u32-serial.ensures,
      m,
    )
    (begun_stored l small c.requires x.w q c.in_ok-quorum.ensures.quorum.2 c.put_distances.ensures.list_len
    ∙ kept_taken _ q k (begun k x.w q) l z)
