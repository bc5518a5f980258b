-- `station::messages::receiver`: the field of the message that is lent.
use mathlib.Core.Path.{ap, ◌∙◌}
use native.Mathlib.Omega.{arith}
use Rattle.buffers.proofs.Waiting.{message_lent, inside}
use Rattle.wire.specs.Decode.{to_of}
use Rattle.station.proofs.messages.receiver.Goals as goal

pub overflow_add-end : goal.overflow_add-end
overflow_add-end c = let x = c.args in
    let i = (inside x.pool.now x.k _ _ c.requires.0 c.requires.1 c.place-start.ensures
    c.length.ensures).ends in
    omega arith

pub slice_bounds-to-end : goal.slice_bounds-to-end
slice_bounds-to-end c = let x = c.args in
    let i = inside x.pool.now x.k _ _ c.requires.0 c.requires.1 c.place-start.ensures
    c.length.ensures in
    let l = i.long in
    let e = i.ends in
    omega arith

pub returns : goal.returns
returns c = let x = c.args in
    c.to.ensures ∙ ap to_of (message_lent x.pool.now x.k _ _ c.place-start.ensures c.length.ensures)
