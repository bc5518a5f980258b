-- `station::delivery::deliver`: by the buffers, the message, the node, and the end that takes it.
use mathlib.Core.Path.{◌≡◌, sym, ap₂, subst, ◌∙◌}
use mathlib.Core.Bool.{true, false}
use Prim.Native.Nat.{ℕ, ◌<◌}
use Rattle.numbers.specs.Sizes.{nodes}
use Rattle.mask.specs.Mask.{contains}
use Rattle.wire.specs.Decode.{to_of}
use Rattle.pool.specs.Pool.{message_at}
use Rattle.buffers.specs.Buffers.{on_of, all}
use Rattle.station.specs.Messages.{buffers_number}
use Rattle.station.proofs.Arriving.{buffers_are, sized, waits_of, receiver_node, bad_buffers, no_message, off, at_replica_lem}
use Rattle.station.proofs.Arriving.{at_coordinator_lem}
use Rattle.station.proofs.delivery.deliver.Goals as goal

pub returns-then-number-ne0-clause-value : goal.returns-then-number-ne0-clause-value
returns-then-number-ne0-clause-value c = let x = c.args in
    let b = bad_buffers x.images.now x.records.now x.pool.now x.own.now x.k x.kept c.buffers_number-number.result
    (c.buffers_number-number.ensures ∙ sym (buffers_are x.images.now x.records.now x.pool.now x.own.now))
    c.if-number-ne0.true in c.refused.ensures ∙ b.0

pub returns-then-number-ne0-clause-images_after : goal.returns-then-number-ne0-clause-images_after
returns-then-number-ne0-clause-images_after c = let x = c.args in
    let b = bad_buffers x.images.now x.records.now x.pool.now x.own.now x.k x.kept c.buffers_number-number.result
    (c.buffers_number-number.ensures ∙ sym (buffers_are x.images.now x.records.now x.pool.now x.own.now))
    c.if-number-ne0.true in b.1.0

pub returns-then-number-ne0-clause-records_after : goal.returns-then-number-ne0-clause-records_after
returns-then-number-ne0-clause-records_after c = let x = c.args in
    let b = bad_buffers x.images.now x.records.now x.pool.now x.own.now x.k x.kept c.buffers_number-number.result
    (c.buffers_number-number.ensures ∙ sym (buffers_are x.images.now x.records.now x.pool.now x.own.now))
    c.if-number-ne0.true in b.1.1.0

pub returns-then-number-ne0-clause-pool_after : goal.returns-then-number-ne0-clause-pool_after
returns-then-number-ne0-clause-pool_after c = let x = c.args in
    let b = bad_buffers x.images.now x.records.now x.pool.now x.own.now x.k x.kept c.buffers_number-number.result
    (c.buffers_number-number.ensures ∙ sym (buffers_are x.images.now x.records.now x.pool.now x.own.now))
    c.if-number-ne0.true in b.1.1.1

pub message_number-wrong-requires : goal.message_number-wrong-requires
message_number-wrong-requires c = let x = c.args in
    let I = x.images.now in
    let R = x.records.now in
    let P = x.pool.now in
    let O = x.own.now in
    let z : buffers_number (all I R P O) ≡ 0 = buffers_are I R P O ∙ sym c.buffers_number-number.ensures ∙ c.if-number-ne0.false in
    (sized I R P O z).pool

pub returns-then-wrong-ne0-clause-value : goal.returns-then-wrong-ne0-clause-value
returns-then-wrong-ne0-clause-value c = let x = c.args in
    let I = x.images.now in
    let R = x.records.now in
    let P = x.pool.now in
    let O = x.own.now in
    let z : buffers_number (all I R P O) ≡ 0 = buffers_are I R P O ∙ sym c.buffers_number-number.ensures
    ∙ c.if-number-ne0.false in
    let b = no_message I R P O x.k x.kept z c.message_number-wrong.result c.message_number-wrong.ensures
    c.if-wrong-ne0.true in c.refused-then-wrong-ne0.ensures ∙ b.0

pub returns-then-wrong-ne0-clause-images_after : goal.returns-then-wrong-ne0-clause-images_after
returns-then-wrong-ne0-clause-images_after c = let x = c.args in
    let I = x.images.now in
    let R = x.records.now in
    let P = x.pool.now in
    let O = x.own.now in
    let z : buffers_number (all I R P O) ≡ 0 = buffers_are I R P O ∙ sym c.buffers_number-number.ensures
    ∙ c.if-number-ne0.false in
    let b = no_message I R P O x.k x.kept z c.message_number-wrong.result c.message_number-wrong.ensures
    c.if-wrong-ne0.true in b.1.0

pub returns-then-wrong-ne0-clause-records_after : goal.returns-then-wrong-ne0-clause-records_after
returns-then-wrong-ne0-clause-records_after c = let x = c.args in
    let I = x.images.now in
    let R = x.records.now in
    let P = x.pool.now in
    let O = x.own.now in
    let z : buffers_number (all I R P O) ≡ 0 = buffers_are I R P O ∙ sym c.buffers_number-number.ensures
    ∙ c.if-number-ne0.false in
    let b = no_message I R P O x.k x.kept z c.message_number-wrong.result c.message_number-wrong.ensures
    c.if-wrong-ne0.true in b.1.1.0

pub returns-then-wrong-ne0-clause-pool_after : goal.returns-then-wrong-ne0-clause-pool_after
returns-then-wrong-ne0-clause-pool_after c = let x = c.args in
    let I = x.images.now in
    let R = x.records.now in
    let P = x.pool.now in
    let O = x.own.now in
    let z : buffers_number (all I R P O) ≡ 0 = buffers_are I R P O ∙ sym c.buffers_number-number.ensures
    ∙ c.if-number-ne0.false in
    let b = no_message I R P O x.k x.kept z c.message_number-wrong.result c.message_number-wrong.ensures
    c.if-wrong-ne0.true in b.1.1.1

pub receiver-node-requires : goal.receiver-node-requires
receiver-node-requires c = let x = c.args in
    let I = x.images.now in
    let R = x.records.now in
    let P = x.pool.now in
    let O = x.own.now in
    let z : buffers_number (all I R P O) ≡ 0 = buffers_are I R P O ∙ sym c.buffers_number-number.ensures
    ∙ c.if-number-ne0.false in
    let w = waits_of P x.k (sym c.message_number-wrong.ensures ∙ c.if-wrong-ne0.false) in
    ((sized I R P O z).pool, w.message)

pub take_out-requires : goal.take_out-requires
take_out-requires c = let x = c.args in
    let I = x.images.now in
    let R = x.records.now in
    let P = x.pool.now in
    let O = x.own.now in
    let z : buffers_number (all I R P O) ≡ 0 = buffers_are I R P O ∙ sym c.buffers_number-number.ensures
    ∙ c.if-number-ne0.false in
    let w = waits_of P x.k (sym c.message_number-wrong.ensures ∙ c.if-wrong-ne0.false) in
    ((sized I R P O z).pool, w.message)

pub returns-then-not-has-clause-value : goal.returns-then-not-has-clause-value
returns-then-not-has-clause-value c = let x = c.args in
    let I = x.images.now in
    let R = x.records.now in
    let P = x.pool.now in
    let O = x.own.now in
    let z : buffers_number (all I R P O) ≡ 0 = buffers_are I R P O ∙ sym c.buffers_number-number.ensures ∙ c.if-number-ne0.false in
    let w = waits_of P x.k (sym c.message_number-wrong.ensures ∙ c.if-wrong-ne0.false) in
    let n = c.receiver-node.ensures in
    let u : contains (on_of O) (to_of (message_at P x.k)) ≡ false =
    ap₂ contains (sym c.on.ensures) (sym n) ∙ sym c.has.ensures ∙ c.if-not-has.true in
    let b = off I R P O x.k x.kept z w.message w.well u in c.refused-then-not-has.ensures ∙ b.0

pub returns-then-not-has-clause-images_after : goal.returns-then-not-has-clause-images_after
returns-then-not-has-clause-images_after c = let x = c.args in
    let I = x.images.now in
    let R = x.records.now in
    let P = x.pool.now in
    let O = x.own.now in
    let z : buffers_number (all I R P O) ≡ 0 = buffers_are I R P O ∙ sym c.buffers_number-number.ensures ∙ c.if-number-ne0.false in
    let w = waits_of P x.k (sym c.message_number-wrong.ensures ∙ c.if-wrong-ne0.false) in
    let n = c.receiver-node.ensures in
    let u : contains (on_of O) (to_of (message_at P x.k)) ≡ false =
    ap₂ contains (sym c.on.ensures) (sym n) ∙ sym c.has.ensures ∙ c.if-not-has.true in
    let b = off I R P O x.k x.kept z w.message w.well u in b.1.0

pub returns-then-not-has-clause-records_after : goal.returns-then-not-has-clause-records_after
returns-then-not-has-clause-records_after c = let x = c.args in
    let I = x.images.now in
    let R = x.records.now in
    let P = x.pool.now in
    let O = x.own.now in
    let z : buffers_number (all I R P O) ≡ 0 = buffers_are I R P O ∙ sym c.buffers_number-number.ensures ∙ c.if-number-ne0.false in
    let w = waits_of P x.k (sym c.message_number-wrong.ensures ∙ c.if-wrong-ne0.false) in
    let n = c.receiver-node.ensures in
    let u : contains (on_of O) (to_of (message_at P x.k)) ≡ false =
    ap₂ contains (sym c.on.ensures) (sym n) ∙ sym c.has.ensures ∙ c.if-not-has.true in
    let b = off I R P O x.k x.kept z w.message w.well u in b.1.1.0

pub returns-then-not-has-clause-pool_after : goal.returns-then-not-has-clause-pool_after
returns-then-not-has-clause-pool_after c = let x = c.args in
    let I = x.images.now in
    let R = x.records.now in
    let P = x.pool.now in
    let O = x.own.now in
    let z : buffers_number (all I R P O) ≡ 0 = buffers_are I R P O ∙ sym c.buffers_number-number.ensures ∙ c.if-number-ne0.false in
    let w = waits_of P x.k (sym c.message_number-wrong.ensures ∙ c.if-wrong-ne0.false) in
    let n = c.receiver-node.ensures in
    let u : contains (on_of O) (to_of (message_at P x.k)) ≡ false =
    ap₂ contains (sym c.on.ensures) (sym n) ∙ sym c.has.ensures ∙ c.if-not-has.true in
    let b = off I R P O x.k x.kept z w.message w.well u in c.take_out.ensures ∙ b.1.1.1

pub is_for_replica-requires : goal.is_for_replica-requires
is_for_replica-requires c = let x = c.args in
    let I = x.images.now in
    let R = x.records.now in
    let P = x.pool.now in
    let O = x.own.now in
    let z : buffers_number (all I R P O) ≡ 0 = buffers_are I R P O ∙ sym c.buffers_number-number.ensures
    ∙ c.if-number-ne0.false in
    let w = waits_of P x.k (sym c.message_number-wrong.ensures ∙ c.if-wrong-ne0.false) in
    ((sized I R P O z).pool, w.message)

pub at_replica-requires : goal.at_replica-requires
at_replica-requires c = let x = c.args in
    let I = x.images.now in
    let R = x.records.now in
    let P = x.pool.now in
    let O = x.own.now in
    let z : buffers_number (all I R P O) ≡ 0 = buffers_are I R P O ∙ sym c.buffers_number-number.ensures ∙ c.if-number-ne0.false in
    let w = waits_of P x.k (sym c.message_number-wrong.ensures ∙ c.if-wrong-ne0.false) in
    let n = c.receiver-node.ensures in
    let s = sized I R P O z in
    (s.images, subst (λ (y : ℕ). y < nodes) (sym n) (receiver_node (message_at P x.k) w.well), s.pool, w.message)

pub returns-then-is_for_replica-clause-value : goal.returns-then-is_for_replica-clause-value
returns-then-is_for_replica-clause-value c = let x = c.args in
    let I = x.images.now in
    let R = x.records.now in
    let P = x.pool.now in
    let O = x.own.now in
    let z : buffers_number (all I R P O) ≡ 0 = buffers_are I R P O ∙ sym c.buffers_number-number.ensures ∙ c.if-number-ne0.false in
    let w = waits_of P x.k (sym c.message_number-wrong.ensures ∙ c.if-wrong-ne0.false) in
    let n = c.receiver-node.ensures in
    let u : contains (on_of O) (to_of (message_at P x.k)) ≡ true =
    ap₂ contains (sym c.on.ensures) (sym n) ∙ sym c.has.ensures
    ∙ c.if-not-has.false in
    let t = c.at_replica.ensures in (at_replica_lem I R P O x.k x.kept z w.message w.well u (sym c.is_for_replica.ensures ∙ c.if-is_for_replica.true) _ n _ _ _
    (t.by_index R O, (t.by_index_2 R O, t.by_index_3 R O))).0

pub returns-then-is_for_replica-clause-images_after : goal.returns-then-is_for_replica-clause-images_after
returns-then-is_for_replica-clause-images_after c = let x = c.args in
    let I = x.images.now in
    let R = x.records.now in
    let P = x.pool.now in
    let O = x.own.now in
    let z : buffers_number (all I R P O) ≡ 0 = buffers_are I R P O ∙ sym c.buffers_number-number.ensures ∙ c.if-number-ne0.false in
    let w = waits_of P x.k (sym c.message_number-wrong.ensures ∙ c.if-wrong-ne0.false) in
    let n = c.receiver-node.ensures in
    let u : contains (on_of O) (to_of (message_at P x.k)) ≡ true =
    ap₂ contains (sym c.on.ensures) (sym n) ∙ sym c.has.ensures
    ∙ c.if-not-has.false in
    let t = c.at_replica.ensures in (at_replica_lem I R P O x.k x.kept z w.message w.well u (sym c.is_for_replica.ensures ∙ c.if-is_for_replica.true) _ n _ _ _
    (t.by_index R O, (t.by_index_2 R O, t.by_index_3 R O))).1.0

pub returns-then-is_for_replica-clause-records_after : goal.returns-then-is_for_replica-clause-records_after
returns-then-is_for_replica-clause-records_after c = let x = c.args in
    let I = x.images.now in
    let R = x.records.now in
    let P = x.pool.now in
    let O = x.own.now in
    let z : buffers_number (all I R P O) ≡ 0 = buffers_are I R P O ∙ sym c.buffers_number-number.ensures ∙ c.if-number-ne0.false in
    let w = waits_of P x.k (sym c.message_number-wrong.ensures ∙ c.if-wrong-ne0.false) in
    let n = c.receiver-node.ensures in
    let u : contains (on_of O) (to_of (message_at P x.k)) ≡ true =
    ap₂ contains (sym c.on.ensures) (sym n) ∙ sym c.has.ensures
    ∙ c.if-not-has.false in
    let t = c.at_replica.ensures in (at_replica_lem I R P O x.k x.kept z w.message w.well u (sym c.is_for_replica.ensures ∙ c.if-is_for_replica.true) _ n _ _ _
    (t.by_index R O, (t.by_index_2 R O, t.by_index_3 R O))).1.1.0

pub returns-then-is_for_replica-clause-pool_after : goal.returns-then-is_for_replica-clause-pool_after
returns-then-is_for_replica-clause-pool_after c = let x = c.args in
    let I = x.images.now in
    let R = x.records.now in
    let P = x.pool.now in
    let O = x.own.now in
    let z : buffers_number (all I R P O) ≡ 0 = buffers_are I R P O ∙ sym c.buffers_number-number.ensures ∙ c.if-number-ne0.false in
    let w = waits_of P x.k (sym c.message_number-wrong.ensures ∙ c.if-wrong-ne0.false) in
    let n = c.receiver-node.ensures in
    let u : contains (on_of O) (to_of (message_at P x.k)) ≡ true =
    ap₂ contains (sym c.on.ensures) (sym n) ∙ sym c.has.ensures
    ∙ c.if-not-has.false in
    let t = c.at_replica.ensures in (at_replica_lem I R P O x.k x.kept z w.message w.well u (sym c.is_for_replica.ensures ∙ c.if-is_for_replica.true) _ n _ _ _
    (t.by_index R O, (t.by_index_2 R O, t.by_index_3 R O))).1.1.1

pub at_coordinator-requires : goal.at_coordinator-requires
at_coordinator-requires c = let x = c.args in
    let I = x.images.now in
    let R = x.records.now in
    let P = x.pool.now in
    let O = x.own.now in
    let z : buffers_number (all I R P O) ≡ 0 = buffers_are I R P O ∙ sym c.buffers_number-number.ensures ∙ c.if-number-ne0.false in
    let w = waits_of P x.k (sym c.message_number-wrong.ensures ∙ c.if-wrong-ne0.false) in
    let n = c.receiver-node.ensures in
    let s = sized I R P O z in
    (s.records, subst (λ (y : ℕ). y < nodes) (sym n) (receiver_node (message_at P x.k) w.well), s.pool, w.message, w.well)

pub returns-clause-value : goal.returns-clause-value
returns-clause-value c = let x = c.args in
    let I = x.images.now in
    let R = x.records.now in
    let P = x.pool.now in
    let O = x.own.now in
    let z : buffers_number (all I R P O) ≡ 0 = buffers_are I R P O ∙ sym c.buffers_number-number.ensures
    ∙ c.if-number-ne0.false in
    let w = waits_of P x.k (sym c.message_number-wrong.ensures ∙ c.if-wrong-ne0.false) in
    let n = c.receiver-node.ensures in
    let u : contains (on_of O) (to_of (message_at P x.k)) ≡ true =
    ap₂ contains (sym c.on.ensures) (sym n) ∙ sym c.has.ensures ∙ c.if-not-has.false in
    let t = c.at_coordinator.ensures in (at_coordinator_lem I R P O x.k x.kept z w.message w.well u
    (sym c.is_for_replica.ensures ∙ c.if-is_for_replica.false) _ n _ _ _ (t.by_index I O) (t.by_index_2 I O) (t.by_index_3 I O)).0

pub returns-clause-images_after : goal.returns-clause-images_after
returns-clause-images_after c = let x = c.args in
    let I = x.images.now in
    let R = x.records.now in
    let P = x.pool.now in
    let O = x.own.now in
    let z : buffers_number (all I R P O) ≡ 0 = buffers_are I R P O ∙ sym c.buffers_number-number.ensures
    ∙ c.if-number-ne0.false in
    let w = waits_of P x.k (sym c.message_number-wrong.ensures ∙ c.if-wrong-ne0.false) in
    let n = c.receiver-node.ensures in
    let u : contains (on_of O) (to_of (message_at P x.k)) ≡ true =
    ap₂ contains (sym c.on.ensures) (sym n) ∙ sym c.has.ensures ∙ c.if-not-has.false in
    let t = c.at_coordinator.ensures in (at_coordinator_lem I R P O x.k x.kept z w.message w.well u
    (sym c.is_for_replica.ensures ∙ c.if-is_for_replica.false) _ n _ _ _ (t.by_index I O) (t.by_index_2 I O) (t.by_index_3 I O)).1.0

pub returns-clause-records_after : goal.returns-clause-records_after
returns-clause-records_after c = let x = c.args in
    let I = x.images.now in
    let R = x.records.now in
    let P = x.pool.now in
    let O = x.own.now in
    let z : buffers_number (all I R P O) ≡ 0 = buffers_are I R P O ∙ sym c.buffers_number-number.ensures
    ∙ c.if-number-ne0.false in
    let w = waits_of P x.k (sym c.message_number-wrong.ensures ∙ c.if-wrong-ne0.false) in
    let n = c.receiver-node.ensures in
    let u : contains (on_of O) (to_of (message_at P x.k)) ≡ true =
    ap₂ contains (sym c.on.ensures) (sym n) ∙ sym c.has.ensures ∙ c.if-not-has.false in
    let t = c.at_coordinator.ensures in (at_coordinator_lem I R P O x.k x.kept z w.message w.well u
    (sym c.is_for_replica.ensures ∙ c.if-is_for_replica.false) _ n _ _ _ (t.by_index I O) (t.by_index_2 I O) (t.by_index_3 I O)).1.1.0

pub returns-clause-pool_after : goal.returns-clause-pool_after
returns-clause-pool_after c = let x = c.args in
    let I = x.images.now in
    let R = x.records.now in
    let P = x.pool.now in
    let O = x.own.now in
    let z : buffers_number (all I R P O) ≡ 0 = buffers_are I R P O ∙ sym c.buffers_number-number.ensures
    ∙ c.if-number-ne0.false in
    let w = waits_of P x.k (sym c.message_number-wrong.ensures ∙ c.if-wrong-ne0.false) in
    let n = c.receiver-node.ensures in
    let u : contains (on_of O) (to_of (message_at P x.k)) ≡ true =
    ap₂ contains (sym c.on.ensures) (sym n) ∙ sym c.has.ensures ∙ c.if-not-has.false in
    let t = c.at_coordinator.ensures in (at_coordinator_lem I R P O x.k x.kept z w.message w.well u
    (sym c.is_for_replica.ensures ∙ c.if-is_for_replica.false) _ n _ _ _ (t.by_index I O) (t.by_index_2 I O) (t.by_index_3 I O)).1.1.1
