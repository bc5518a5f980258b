-- `station::messages::will_answer`: the replica is lent the image and the message.
use mathlib.Core.Path.{◌≡◌, ap, ◌∙◌}
use Prim.Native.Nat.{ℕ, ◌+◌}
use native.Mathlib.Omega.{arith}
use mathlib.Core.List.{List}
use Rattle.image.specs.Layout.{image_size, shape}
use Rattle.numbers.specs.Sizes.{longest_message}
use Rattle.buffers.proofs.Waiting.{message_lent, inside}
use Prim.Native.Nat.{◌*◌, ◌-◌}
use lib.ListN.{take, drop}
use Rattle.parts.specs.Parts.{part}
use Rattle.replica.specs.Receive.{deliver, spoken}
use Rattle.buffers.specs.Buffers.{image_at}
use Rattle.station.proofs.messages.will_answer.Goals as goal

pub overflow_add-end : goal.overflow_add-end
overflow_add-end c = let x = c.args in
    let i = (inside x.pool.now x.k _ _ c.requires.2 c.requires.3
    c.place-start.ensures c.length.ensures).ends in
    omega arith

pub slice_bounds-answers-end-2 : goal.slice_bounds-answers-end-2
slice_bounds-answers-end-2 c = let x = c.args in
    let i = inside x.pool.now x.k _ _ c.requires.2 c.requires.3 c.place-start.ensures c.length.ensures in
    let l = i.long in
    let e = i.ends in
    omega arith

pub returns : goal.returns
unfolding image_at part
returns c = let x = c.args in
    let w = c.from-first.result in
    let e : image_size shape * w + image_size shape - image_size shape * w ≡ image_size shape = omega arith in
    let m = message_lent x.pool.now x.k _ _ c.place-start.ensures c.length.ensures in
    c.answers.ensures
    ∙ ap (λ (b : List ℕ). spoken (deliver longest_message
    (take (image_size shape * w + image_size shape - image_size shape * w) (drop (image_size shape * w) x.images.now)) x.node b).answer) m
    ∙ rw (e, c.from-first.ensures)
