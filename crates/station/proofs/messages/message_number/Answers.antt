-- `station::messages::message_number`: none waits, or the number of the message that is lent.
use mathlib.Core.Path.{ap, ◌∙◌}
use Prim.Native.Nat.{◌≤◌}
use native.Mathlib.Omega.{arith}
use Rattle.buffers.proofs.Waiting.{message_lent, inside}
use Prim.Native.Nat.{◌<◌}
use borrow.Author.Tests.{lt-ltb, le-ltb}
use Rattle.pool.specs.Pool.{count}
use Rattle.wire.specs.Decode.{check_of}
use Rattle.station.proofs.messages.message_number.Goals as goal

pub overflow_add-end : goal.overflow_add-end
overflow_add-end c = let x = c.args in
    let w = c.from.ensures in
    let n = c.count.ensures.0 in
    let t = c.if-from-count.true in
    let h : x.k < count x.pool.now = omega arith in
    let i = (inside x.pool.now x.k _ _ c.requires h c.place-start.ensures c.length.ensures).ends in
    omega arith

pub slice_bounds-check-end : goal.slice_bounds-check-end
slice_bounds-check-end c = let x = c.args in
    let w = c.from.ensures in
    let n = c.count.ensures.0 in
    let t = c.if-from-count.true in
    let h : x.k < count x.pool.now = omega arith in
    let i = inside x.pool.now x.k _ _ c.requires h c.place-start.ensures c.length.ensures in
    let l = i.long in
    let e = i.ends in
    omega arith

pub returns-then-from-count : goal.returns-then-from-count
returns-then-from-count c = let x = c.args in
    let w = c.from.ensures in
    let n = c.count.ensures.0 in
    let t = c.if-from-count.true in
    let h : x.k < count x.pool.now = omega arith in
    simp (lt-ltb x.k (count x.pool.now) h)
    (c.number.ensures ∙ c.check.ensures ∙ ap check_of (message_lent x.pool.now x.k _ _ c.place-start.ensures
    c.length.ensures))

pub returns-else-from-count : goal.returns-else-from-count
returns-else-from-count c = let x = c.args in
    let w = c.from.ensures in
    let n = c.count.ensures.0 in
    let t = c.if-from-count.false in
    let h : count x.pool.now ≤ x.k = omega arith in
    simp (le-ltb x.k (count x.pool.now) h)
