-- `deeds::request_commit`: the phase and the participants stored over a record are the record that asks for votes.
use mathlib.Core.Path.{◌≡◌, sym, ap, ap₂, ◌∙◌}
use Prim.Native.Nat.{ℕ}
use native.Mathlib.Omega.{arith}
use Rattle.octets.proofs.Laws.{Bytes}
use Rattle.mask.specs.Mask.{joined}
use Rattle.quorum.specs.Nearest.{mask_of}
use Rattle.coordinator.specs.System.{tree}
use Rattle.coordinator.specs.Calls.{requested, request_commit_of, request_commit_refusals}
use Rattle.record.specs.Record.{record_of}
use Rattle.record.specs.Call.{called}
use Rattle.record.proofs.OnBytes.{told_taken, kept_taken}
use Rattle.deeds.proofs.Number.{step_number}
use Rattle.deeds.proofs.Stored.{requested_stored}
use Rattle.deeds.proofs.request_commit.Goals as goal

pub returns-clause-value : goal.returns-clause-value
unfolding request_commit_of record_of
returns-clause-value c = let x = c.args in
    let l = x.bytes.now in
    let k = record_of l in
    let q : ℕ = mask_of (tree.nearest_write x.me k.live k.distances) in
    let p : ℕ = joined q k.contacted in
    let z = step_number _ p k (requested k p) ∙ sym c.in_ok-quorum.ensures.number in
    let all = c.join-participants.ensures ∙ ap₂ joined (ap mask_of (sym c.in_ok-quorum.ensures.quorum)) c.get_u16.ensures in
    ap (called 0) (c.from.ensures ∙ all) ∙ told_taken _ p k (requested k p) l z

pub returns-clause-bytes_after : goal.returns-clause-bytes_after
unfolding request_commit_of record_of
returns-clause-bytes_after c = let x = c.args in
    let l = x.bytes.now in
    let k = record_of l in
    let q : ℕ = mask_of (tree.nearest_write x.me k.live k.distances) in
    let p : ℕ = joined q k.contacted in
    let z = step_number _ p k (requested k p) ∙ sym c.in_ok-quorum.ensures.number in
    let small : Bytes l = λ j. omega (arith, c.slice_known-1.given j) in
    let all = c.join-participants.ensures ∙ ap₂ joined (ap mask_of (sym c.in_ok-quorum.ensures.quorum)) c.get_u16.ensures in
    rw (c.put_u16.ensures, c.turn.ensures, c.get_u8.ensures, all)
    (requested_stored l small c.requires p ∙ kept_taken _ p k (requested k p) l z)
