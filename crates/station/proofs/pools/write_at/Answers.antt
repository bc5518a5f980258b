-- `station::pools::write_at`: what is due from the node's part; 4 for what is no node.
use mathlib.Core.Path.{◌≡◌, ap, ◌∙◌}
use mathlib.Core.List.{List}
use Prim.Native.Nat.{ℕ, ◌+◌, ◌-◌, ◌*◌}
use native.Mathlib.Omega.{arith}
use lib.ListN.{length, take, drop}
use borrow.Author.Tests.{le-ltb}
use Rattle.record.specs.Layout.{record_size}
use Rattle.numbers.specs.Sizes.{nodes}
use Rattle.due.specs.Kind.{due_refusals}
use Rattle.due.specs.Due.{write_refusals, is_due, due_written, due_buffer}
use Rattle.record_due.specs.Call.{record_due, record_due_buffer}
use Rattle.parts.specs.Parts.{part}
use Rattle.buffers.specs.Buffers.{record_at, record_damaged}
use Rattle.station.specs.Messages.{owed_at, owed_into}
use Rattle.station.proofs.Sending.{due_here, put_here}
use Rattle.station.proofs.pools.write_at.Goals as goal

pub returns-then-node-lt-NODES_END-clause-value : goal.returns-then-node-lt-NODES_END-clause-value
unfolding record_at part
returns-then-node-lt-NODES_END-clause-value c = let x = c.args in
    let q = c.requires in
    let R = x.records.now in
    let n = c.from-start.result in
    let k : record_size * n + record_size - record_size * n ≡ record_size = omega arith in
    let s : take (record_size * n + record_size - record_size * n) (drop (record_size * n) R) ≡ record_at R x.node = rw (k, c.from-start.ensures) in
    let h = c.if-node-lt-NODES_END.true in
    let r = c.write_due.ensures in
    r.value ∙ ap (λ (l : List ℕ). record_due l x.node x.to x.object (length x.out.now)) s
    ∙ due_here R x.node x.to x.object h q.0 (length x.out.now) q.1

pub returns-then-node-lt-NODES_END-clause-out_after : goal.returns-then-node-lt-NODES_END-clause-out_after
unfolding record_at part
returns-then-node-lt-NODES_END-clause-out_after c = let x = c.args in
    let q = c.requires in
    let R = x.records.now in
    let n = c.from-start.result in
    let k : record_size * n + record_size - record_size * n ≡ record_size = omega arith in
    let s : take (record_size * n + record_size - record_size * n) (drop (record_size * n) R) ≡ record_at R x.node = rw (k, c.from-start.ensures) in
    let h = c.if-node-lt-NODES_END.true in
    let r = c.write_due.ensures in
    r.out_after ∙ ap (λ (l : List ℕ). record_due_buffer l x.node x.to x.object x.out.now) s
    ∙ put_here R x.node x.to x.object h q.0 x.out.now q.1

pub returns-else-node-lt-NODES_END-clause-value : goal.returns-else-node-lt-NODES_END-clause-value
unfolding record_damaged owed_at owed_into due_written due_buffer is_due write_refusals due_refusals
returns-else-node-lt-NODES_END-clause-value c = let q = c.requires in
    let t = le-ltb _ nodes c.if-node-lt-NODES_END.false in simp t

pub returns-else-node-lt-NODES_END-clause-out_after : goal.returns-else-node-lt-NODES_END-clause-out_after
unfolding record_damaged owed_at owed_into due_written due_buffer is_due write_refusals due_refusals
returns-else-node-lt-NODES_END-clause-out_after c = let q = c.requires in
    let t = le-ltb _ nodes c.if-node-lt-NODES_END.false in simp (q.1, t)
