-- `record_due::write_due`: refused, or what is due.
use mathlib.Core.Path.{sym, ap, ◌∙◌}
use lib.ListN.{length}
use Rattle.numbers.proofs.Outcome.{code_counts}
use Rattle.record.specs.Record.{record_of}
use Rattle.record_due.proofs.OnBytes.{due_refused, due_left, due_taken, due_filled, due_clear}
use Rattle.record.proofs.OnBytes.{part_count, part_checked, all_of}
use Rattle.record_due.proofs.write_due.Goals as goal

pub slice_bounds-write-end : goal.slice_bounds-write-end
slice_bounds-write-end c = let x = c.args in
    part_count _ (due_clear x.bytes.now (length x.out.now) (sym c.in-Ok.ensures)).0

pub write-requires-clause-bytes_value : goal.write-requires-clause-bytes_value
write-requires-clause-bytes_value c = let x = c.args in
    part_checked _ (due_clear x.bytes.now (length x.out.now) (sym c.in-Ok.ensures)).0

pub write-requires-clause-longest_message_in_bounds : goal.write-requires-clause-longest_message_in_bounds
write-requires-clause-longest_message_in_bounds c = let x = c.args in
    (due_clear x.bytes.now (length x.out.now) (sym c.in-Ok.ensures)).1

pub returns-in-Ok-clause-value : goal.returns-in-Ok-clause-value
returns-in-Ok-clause-value c = let x = c.args in
    let l = x.bytes.now in
    let z = sym c.in-Ok.ensures in
    let same = ap record_of (all_of l (due_clear l (length x.out.now) z).0) in
    c.write.ensures.value ∙ due_taken l x.me x.node x.object (length x.out.now) z _ same

pub returns-in-Ok-clause-out_after : goal.returns-in-Ok-clause-out_after
returns-in-Ok-clause-out_after c = let x = c.args in
    let l = x.bytes.now in
    let z = sym c.in-Ok.ensures in
    let same = ap record_of (all_of l (due_clear l (length x.out.now) z).0) in
    c.write.ensures.out_after ∙ due_filled l x.me x.node x.object x.out.now z _ same

pub returns-in-Err-clause-value : goal.returns-in-Err-clause-value
returns-in-Err-clause-value c = let x = c.args in
    let n = c.from.ensures in
    due_refused x.bytes.now x.me x.node x.object (length x.out.now) _ (n ∙ c.in-Err.ensures) (λ z. code_counts c.in-Err.refusal (sym n ∙ z))

pub returns-in-Err-clause-out_after : goal.returns-in-Err-clause-out_after
returns-in-Err-clause-out_after c = let x = c.args in
    due_left x.bytes.now x.me x.node x.object x.out.now _ c.in-Err.ensures (code_counts c.in-Err.refusal)
