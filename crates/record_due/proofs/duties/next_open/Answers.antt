-- `record_due::duties::next_open`: of the places passed, none has an object from `lo` up to the least number found, which is one of theirs.
use mathlib.Core.Path.{◌≡◌, subst}
use native.Mathlib.Omega.{arith}
use Rattle.record.specs.Record.{record_of}
use Rattle.record.proofs.Stored.{readable}
use Rattle.record_due.proofs.Gather.{Past, Stands, shut_between, stands_open}
use Rattle.record_due.proofs.duties.next_open.Goals as goal

pub overflow_mul-x : goal.overflow_mul-x
overflow_mul-x c = let z = readable _ c.requires.bytes_value in
    omega (arith, z.1, c.count-n.ensures)

pub overflow_add-x : goal.overflow_add-x
overflow_add-x c = let z = readable _ c.requires.bytes_value in
    omega (arith, z.1, c.count-n.ensures)

pub bounds-bytes-i : goal.bounds-bytes-i
bounds-bytes-i c = let z = readable _ c.requires.bytes_value in
    omega (arith, z.0, z.1, c.count-n.ensures)

pub returns-then-m-lt-OBJECTS_END : goal.returns-then-m-lt-OBJECTS_END
returns-then-m-lt-OBJECTS_END c = let x = c.args in
    let k = c.loop-i in
    let last : k.i ≡ (record_of x.bytes.now).count = omega (arith, c.count-n.ensures) in
    let shut = shut_between x.bytes.now x.lo k.m (subst (Past x.bytes.now x.lo k.m) last k.invariant.1.1.0) in
    let there = stands_open x.bytes.now c.requires.bytes_value k.m (subst (Stands x.bytes.now k.m) last k.invariant.1.1.1) in
    (k.invariant.0, (c.if-m-lt-OBJECTS_END.true, (shut, there c.if-m-lt-OBJECTS_END.true)))

pub returns-else-m-lt-OBJECTS_END : goal.returns-else-m-lt-OBJECTS_END
returns-else-m-lt-OBJECTS_END c = let x = c.args in
    let k = c.loop-i in
    let last : k.i ≡ (record_of x.bytes.now).count = omega (arith, c.count-n.ensures) in
    λ n a b. shut_between x.bytes.now x.lo k.m (subst (Past x.bytes.now x.lo k.m) last k.invariant.1.1.0) n a (omega arith)
