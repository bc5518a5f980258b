-- `station::messages::hand_over`: the record lent from the middle comes back as the coordinator leaves it.
use mathlib.Core.Path.{◌≡◌, ap, ap₂, ◌∙◌}
use mathlib.Core.List.{List}
use Prim.Native.Nat.{ℕ, ◌+◌, ◌*◌, ◌-◌}
use native.Mathlib.Omega.{arith}
use lib.ListN.{take, drop}
use Rattle.record.specs.Layout.{record_size}
use Rattle.parts.specs.Parts.{part, splice}
use Rattle.parts.proofs.Laws.{lent}
use Rattle.pool.specs.Pool.{message_at}
use Rattle.coordinator.specs.declared.Coordinator.{Coordinator}
use Rattle.coordinator.specs.System.{tree}
use Rattle.arrivals.specs.Receive.{receive_of}
use Rattle.record.specs.Call.{record_after}
use Rattle.record_arrive.specs.Call.{received_of as calledBy}
use Rattle.buffers.specs.Buffers.{record_at, with_record_at}
use Rattle.buffers.proofs.Waiting.{message_lent, inside}
use Rattle.station.proofs.messages.hand_over.Goals as goal

record_lent : (R : List ℕ) (n w : ℕ) → record_size * w + record_size - record_size * w ≡ record_size → w ≡ n
    → take (record_size * w + record_size - record_size * w) (drop (record_size * w) R) ≡ record_at R n
unfolding record_at part
record_lent R n w e i = rw (e, i)

pub overflow_add-end : goal.overflow_add-end
overflow_add-end c = let x = c.args in
    let i = (inside x.pool.now x.k _ _ c.requires.2 c.requires.3 c.place-start.ensures c.length.ensures).ends in
    omega arith

pub slice_bounds-receive-end-2 : goal.slice_bounds-receive-end-2
slice_bounds-receive-end-2 c = let x = c.args in
    let i = inside x.pool.now x.k _ _ c.requires.2 c.requires.3 c.place-start.ensures
    c.length.ensures in
    let l = i.long in
    let e = i.ends in
    omega arith

pub returns-clause-number : goal.returns-clause-number
unfolding record_at with_record_at
returns-clause-number c = let x = c.args in
    let R = x.records.now in
    let w = c.from-first.result in
    let e : record_size * w + record_size - record_size * w ≡ record_size = omega arith in
    let i = c.from-first.ensures in
    let m = message_lent x.pool.now x.k _ _ c.place-start.ensures c.length.ensures in
    let s = c.place-start.result in
    let n = c.length.result in
    let b : List ℕ = take (s + n - s) (drop s x.pool.now) in
    let t = c.receive.ensures in
    let p : take (record_size * w + record_size - record_size * w) (drop (record_size * w) R) ≡ record_at R x.node = record_lent R x.node w e i in
    t.value ∙ ap₂ (λ (l b : List ℕ). calledBy x.node b l) p m

pub returns-clause-records : goal.returns-clause-records
unfolding record_at with_record_at
returns-clause-records c = let x = c.args in
    let R = x.records.now in
    let w = c.from-first.result in
    let e : record_size * w + record_size - record_size * w ≡ record_size = omega arith in
    let i = c.from-first.ensures in
    let m = message_lent x.pool.now x.k _ _ c.place-start.ensures c.length.ensures in
    let s = c.place-start.result in
    let n = c.length.result in
    let b : List ℕ = take (s + n - s) (drop s x.pool.now) in
    let t = c.receive.ensures in
    let p : take (record_size * w + record_size - record_size * w) (drop (record_size * w) R) ≡ record_at R x.node = record_lent R x.node w e i in
    lent (record_after (λ (d : Coordinator). receive_of tree d x.node b)) record_size (record_size * w)
    (record_size * w + record_size - record_size * w) R _ e t.bytes_after
    ∙ ap (λ (b : List ℕ). splice record_size (record_size * w)
    (record_after (λ (d : Coordinator). receive_of tree d x.node b) (part record_size (record_size * w) R)) R) m
    ∙ ap (λ (k : ℕ). splice record_size (record_size * k) (record_after (λ (d : Coordinator). receive_of tree d x.node (message_at x.pool.now x.k))
    (part record_size (record_size * k) R)) R) i
