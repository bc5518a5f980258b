-- `station::messages::is_for_replica`: three tests of the kind of the message that is lent.
use mathlib.Core.Path.{ap, ◌∙◌}
use native.Mathlib.Omega.{arith}
use Rattle.buffers.proofs.Waiting.{message_lent, inside}
use mathlib.Core.Bool.{Bool, ◌||◌}
use lib.Dec.{eqb}
use Rattle.wire.specs.Decode.{kind_of}
use Rattle.arrivals.specs.Receive.{for_replica}
use Rattle.station.proofs.messages.is_for_replica.Goals as goal

pub overflow_add-end : goal.overflow_add-end
overflow_add-end c = let x = c.args in
    let i = (inside x.pool.now x.k _ _ c.requires.0 c.requires.1 c.place-start.ensures
    c.length.ensures).ends in
    omega arith

pub slice_bounds-kind-end : goal.slice_bounds-kind-end
slice_bounds-kind-end c = let x = c.args in
    let i = inside x.pool.now x.k _ _ c.requires.0 c.requires.1 c.place-start.ensures
    c.length.ensures in
    let l = i.long in
    let e = i.ends in
    omega arith

pub returns : goal.returns
returns c = let x = c.args in
    let k = c.kind-kind.ensures ∙ ap kind_of (message_lent x.pool.now x.k _ _
    c.place-start.ensures c.length.ensures) in
    c.either-2.ensures ∙ ap (λ (t : Bool). eqb c.kind-kind.result 1 || t) c.either.ensures ∙ ap for_replica k
