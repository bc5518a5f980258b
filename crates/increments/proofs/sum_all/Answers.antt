-- `increments::sum_all`: after i turns the bytes are those of the record after the first i sums.
use Rattle.std.proofs.Common.{◌≡◌, ℕ, sym, ap, ◌∙◌, arith}
use Rattle.octets.proofs.Laws.{Bytes}
use Rattle.coordinator.specs.System.{tree}
use Rattle.record.specs.Record.{record_of, bytes_of}
use Rattle.record.proofs.OnBytes.{checked_length}
use Rattle.record.proofs.Kept.{checked_meets}
use Rattle.deeds.proofs.Held.{checked_holds, holds_checked}
use Rattle.increments.specs.Deeds.{ran, summing}
use Rattle.increments.proofs.Summed.{sums_to}
use Rattle.increments.proofs.Turns.{sum_found, sum_turn}
use Rattle.increments.proofs.sum_all.Goals as goal

pub loop-i-init : goal.loop-i-init
unfolding ran summing
loop-i-init c = let l = c.args.bytes.now in
    let small : Bytes l = λ j. omega (arith, c.slice_known-1.given j) in
    checked_holds l small c.requires

pub set_value-requires : goal.set_value-requires
set_value-requires c = holds_checked _ _ c.loop-i.invariant

pub loop-i-preserved : goal.loop-i-preserved
loop-i-preserved c = let k = c.loop-i in
    let x = c.args in
    let l = x.bytes.now in
    let m = checked_meets l c.requires in
    let e = c.object_at-x.ensures ∙ sum_found x.me (record_of l) m k.bytes k.i (omega (arith, c.count-n.ensures)) k.invariant in
    sum_turn x.me (record_of l) m k.bytes k.i (omega (arith, c.count-n.ensures)) k.invariant _ e _ c.sum.ensures _
    c.set_value.ensures.bytes_after

pub shape_of-bytes : goal.shape_of-bytes
shape_of-bytes c = checked_length _ (holds_checked _ _ c.loop-i.invariant) ∙ sym (checked_length _ c.requires)

pub returns-clause-bytes_after : goal.returns-clause-bytes_after
returns-clause-bytes_after c = let k = c.loop-i in
    let x = c.args in
    let l = x.bytes.now in
    let e : k.i ≡ (record_of l).count = omega (arith, c.count-n.ensures) in k.invariant.bytes
    ∙ ap (λ (n : ℕ). bytes_of (sums_to tree (record_of l) x.me n)) e

pub returns-clause-bytes_after_2 : goal.returns-clause-bytes_after_2
returns-clause-bytes_after_2 c = let k = c.loop-i in
    let x = c.args in
    let l = x.bytes.now in
    let e : k.i ≡ (record_of l).count = omega (arith, c.count-n.ensures) in holds_checked _ _ k.invariant
