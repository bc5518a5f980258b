-- `station::messages::hand`: the image lent from the middle comes back as the replica leaves it.
use mathlib.Core.Path.{◌≡◌, ap, ◌∙◌}
use Prim.Native.Nat.{ℕ, ◌+◌}
use native.Mathlib.Omega.{arith}
use mathlib.Core.List.{List}
use Rattle.image.specs.Layout.{image_size, shape}
use Rattle.buffers.proofs.Waiting.{message_lent, inside}
use mathlib.Core.Path.{ap₂}
use Prim.Native.Nat.{◌*◌, ◌-◌}
use lib.ListN.{length, take, drop}
use Rattle.parts.specs.Parts.{part, splice}
use Rattle.parts.proofs.Laws.{lent}
use Rattle.pool.specs.Pool.{message_at}
use Rattle.replica.specs.Receive.{deliver, received_of, buffer_of}
use Rattle.buffers.specs.Buffers.{image_at, with_image_at}
use Rattle.station.proofs.messages.hand.Goals as goal

image_lent : (I : List ℕ) (n w : ℕ) → image_size shape * w + image_size shape - image_size shape * w ≡ image_size shape → w ≡ n
    → take (image_size shape * w + image_size shape - image_size shape * w) (drop (image_size shape * w) I) ≡ image_at I n
unfolding image_at part
image_lent I n w e i = rw (e, i)

pub overflow_add-end : goal.overflow_add-end
overflow_add-end c = let x = c.args in
    let i = (inside x.pool.now x.k _ _ c.requires.2 c.requires.3 c.place-start.ensures c.length.ensures).ends in
    omega arith

pub slice_bounds-receive-end-2 : goal.slice_bounds-receive-end-2
slice_bounds-receive-end-2 c = let x = c.args in
    let i = inside x.pool.now x.k _ _ c.requires.2 c.requires.3 c.place-start.ensures c.length.ensures in
    let l = i.long in
    let e = i.ends in
    omega arith

pub returns-clause-number : goal.returns-clause-number
unfolding image_at with_image_at
returns-clause-number c = let x = c.args in
    let I = x.images.now in
    let out = x.answer.now in
    let w = c.from-first.result in
    let e : image_size shape * w + image_size shape - image_size shape * w ≡ image_size shape = omega arith in
    let i = c.from-first.ensures in
    let m = message_lent x.pool.now x.k _ _ c.place-start.ensures c.length.ensures in
    let s = c.place-start.result in
    let n = c.length.result in
    let b : List ℕ = take (s + n - s) (drop s x.pool.now) in
    let t = c.receive.ensures in
    let p : take (image_size shape * w + image_size shape - image_size shape * w) (drop (image_size shape * w) I) ≡ image_at I x.node = image_lent I
    x.node w e i in
    t.number ∙ ap₂ (λ (l b : List ℕ). received_of (deliver (length out) l x.node b)) p m

pub returns-clause-images : goal.returns-clause-images
unfolding image_at with_image_at
returns-clause-images c = let x = c.args in
    let I = x.images.now in
    let out = x.answer.now in
    let w = c.from-first.result in
    let e : image_size shape * w + image_size shape - image_size shape * w ≡ image_size shape = omega arith in
    let i = c.from-first.ensures in
    let m = message_lent x.pool.now x.k _ _ c.place-start.ensures c.length.ensures in
    let s = c.place-start.result in
    let n = c.length.result in
    let b : List ℕ = take (s + n - s) (drop s x.pool.now) in
    let t = c.receive.ensures in
    let p : take (image_size shape * w + image_size shape - image_size shape * w) (drop (image_size shape * w) I) ≡ image_at I x.node = image_lent I
    x.node w e i in
    lent (λ (l : List ℕ). (deliver (length out) l x.node b).image) (image_size shape) (image_size shape * w)
    (image_size shape * w + image_size shape - image_size shape * w) I _ e t.image
    ∙ ap (λ (b : List ℕ). splice (image_size shape) (image_size shape * w)
    (deliver (length out) (part (image_size shape) (image_size shape * w) I) x.node b).image I) m
    ∙ ap (λ (k : ℕ). splice (image_size shape) (image_size shape * k)
    (deliver (length out) (part (image_size shape) (image_size shape * k) I) x.node (message_at x.pool.now x.k)).image I) i

pub returns-clause-buffer : goal.returns-clause-buffer
unfolding image_at with_image_at
returns-clause-buffer c = let x = c.args in
    let I = x.images.now in
    let out = x.answer.now in
    let w = c.from-first.result in
    let e : image_size shape * w + image_size shape - image_size shape * w ≡ image_size shape = omega arith in
    let i = c.from-first.ensures in
    let m = message_lent x.pool.now x.k _ _ c.place-start.ensures c.length.ensures in
    let s = c.place-start.result in
    let n = c.length.result in
    let b : List ℕ = take (s + n - s) (drop s x.pool.now) in
    let t = c.receive.ensures in
    let p : take (image_size shape * w + image_size shape - image_size shape * w) (drop (image_size shape * w) I) ≡ image_at I x.node = image_lent I
    x.node w e i in
    t.buffer ∙ ap₂ (λ (l b : List ℕ). buffer_of out l x.node b) p m
