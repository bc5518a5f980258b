-- `station_calls::calls::request_commit`: on the bytes of the record of a node that is on, else the number of the buffers or of a node that is off.
use mathlib.Core.Path.{sym, ◌∙◌}
use Prim.Native.Nat.{◌≤◌, ◌<◌}
use native.Mathlib.Omega.{arith}
use borrow.Author.Tests.{le-ltb}
use Rattle.numbers.specs.Sizes.{nodes}
use Rattle.coordinator.specs.declared.Coordinator.{Coordinator}
use Rattle.coordinator.specs.Step.{Step}
use Rattle.coordinator.specs.System.{tree}
use Rattle.coordinator.specs.Calls.{request_commit_refusals, request_commit_of}
use Rattle.steps.specs.Step.{request_commit, step}
use Rattle.buffers.specs.Buffers.{station_of, ends, record_in}
use Rattle.buffers.proofs.First.{told_first, ends_stop, ends_long}
use Rattle.station_calls.proofs.Hosted.{records_first, on_is, on_lent}
use Rattle.station_calls.proofs.Off.{step_not_two, step_stranger, off_stranger, off_lent}
use Rattle.station_calls.proofs.calls.request_commit.Goals as goal

pub slice_bounds-request_commit-end : goal.slice_bounds-request_commit-end
slice_bounds-request_commit-end c = let x = c.args in
    let t = on_is x.records.now x.own.now x.node (sym c.is_on.ensures ∙ c.if-is_on.true) in
    let l = t.records_long in
    let n = t.node in
    let w = c.from-start.ensures in
    omega arith

pub returns-then-is_on-clause-value : goal.returns-then-is_on-clause-value
unfolding step
returns-then-is_on-clause-value c = let x = c.args in
    let t = on_is x.records.now x.own.now x.node (sym c.is_on.ensures ∙ c.if-is_on.true) in
    let f : Coordinator → Step = λ k. request_commit_of tree k x.node in
    let i = c.from-start.ensures in (on_lent x.records.now x.own.now x.node f t _ i _ (c.from-c.ensures
    ∙ c.request_commit.ensures.value) _ c.request_commit.ensures.bytes_after _ c.answered.ensures).0

pub returns-then-is_on-clause-records_after : goal.returns-then-is_on-clause-records_after
unfolding step
returns-then-is_on-clause-records_after c = let x = c.args in
    let t = on_is x.records.now x.own.now x.node (sym c.is_on.ensures ∙ c.if-is_on.true) in
    let f : Coordinator → Step = λ k. request_commit_of tree k x.node in
    let i = c.from-start.ensures in (on_lent x.records.now x.own.now x.node f t _ i _ (c.from-c.ensures
    ∙ c.request_commit.ensures.value) _ c.request_commit.ensures.bytes_after _ c.answered.ensures).1

pub returns-then-number-ne0-clause-value : goal.returns-then-number-ne0-clause-value
returns-then-number-ne0-clause-value c = let x = c.args in
    let o = step (station_of (ends x.records.now x.own.now)) (request_commit x.node) in
    let h = c.if-number-ne0.true in
    let e = ends_stop x.records.now x.own.now x.node _ c.ends_number-number.ensures h in c.refused.ensures ∙ told_first _ _ o e h

pub returns-then-number-ne0-clause-records_after : goal.returns-then-number-ne0-clause-records_after
returns-then-number-ne0-clause-records_after c = let x = c.args in
    let o = step (station_of (ends x.records.now x.own.now)) (request_commit x.node) in
    let h = c.if-number-ne0.true in
    let e = ends_stop x.records.now x.own.now x.node _ c.ends_number-number.ensures h in records_first _ _ o x.node x.records.now e h

pub returns-then-node-ge-NODES_END-clause-value : goal.returns-then-node-ge-NODES_END-clause-value
unfolding step request_commit_refusals request_commit_of
returns-then-node-ge-NODES_END-clause-value c = let x = c.args in
    let e = sym c.ends_number-number.ensures ∙ c.if-number-ne0.false in
    let z = sym c.is_on.ensures ∙ c.if-is_on.false in
    let k = record_in x.records.now x.node in
    let above = c.if-node-ge-NODES_END.true in
    let h : nodes ≤ x.node = omega (arith, above) in (off_stranger x.records.now x.own.now x.node e z (request_commit_of tree k x.node) above
    (step_stranger (request_commit_refusals tree k x.node (tree.nearest_write x.node k.live k.distances)) _ _ _ (simp (le-ltb x.node nodes h))) _
    c.refused-then-node-ge-NODES_END.ensures).0

pub returns-then-node-ge-NODES_END-clause-records_after : goal.returns-then-node-ge-NODES_END-clause-records_after
unfolding step request_commit_refusals request_commit_of
returns-then-node-ge-NODES_END-clause-records_after c = let x = c.args in
    let e = sym c.ends_number-number.ensures ∙ c.if-number-ne0.false in
    let z = sym c.is_on.ensures ∙ c.if-is_on.false in
    let k = record_in x.records.now x.node in
    let above = c.if-node-ge-NODES_END.true in
    let h : nodes ≤ x.node = omega (arith, above) in (off_stranger x.records.now x.own.now x.node e z (request_commit_of tree k x.node) above
    (step_stranger (request_commit_refusals tree k x.node (tree.nearest_write x.node k.live k.distances)) _ _ _ (simp (le-ltb x.node nodes h))) _
    c.refused-then-node-ge-NODES_END.ensures).1

pub slice_bounds-may_request-end : goal.slice_bounds-may_request-end
slice_bounds-may_request-end c = let x = c.args in
    let l = ends_long x.records.now x.own.now x.node
    (sym c.ends_number-number.ensures ∙ c.if-number-ne0.false) in
    let n = c.if-node-ge-NODES_END.false in
    let w = c.from-start-2.ensures in
    omega arith

pub returns-clause-value : goal.returns-clause-value
unfolding step request_commit_refusals request_commit_of
returns-clause-value c = let x = c.args in
    let e = sym c.ends_number-number.ensures ∙ c.if-number-ne0.false in
    let z = sym c.is_on.ensures ∙ c.if-is_on.false in
    let k = record_in x.records.now x.node in
    let f : Coordinator → Step = λ k. request_commit_of tree k x.node in
    let h : x.node < nodes = omega (arith, c.if-node-ge-NODES_END.false) in (off_lent x.records.now x.own.now x.node e z f h
    (step_not_two (request_commit_refusals tree k x.node (tree.nearest_write x.node k.live k.distances)) _ _ _ tt) _
    c.from-start-2.ensures _
    (c.number-alone.ensures ∙ c.may_request.ensures) _ c.off_number.ensures _ c.refused-2.ensures).0

pub returns-clause-records_after : goal.returns-clause-records_after
unfolding step request_commit_refusals request_commit_of
returns-clause-records_after c = let x = c.args in
    let e = sym c.ends_number-number.ensures ∙ c.if-number-ne0.false in
    let z = sym c.is_on.ensures ∙ c.if-is_on.false in
    let k = record_in x.records.now x.node in
    let f : Coordinator → Step = λ k. request_commit_of tree k x.node in
    let h : x.node < nodes = omega (arith, c.if-node-ge-NODES_END.false) in (off_lent x.records.now x.own.now x.node e z f h
    (step_not_two (request_commit_refusals tree k x.node (tree.nearest_write x.node k.live k.distances)) _ _ _ tt) _
    c.from-start-2.ensures _
    (c.number-alone.ensures ∙ c.may_request.ensures) _ c.off_number.ensures _ c.refused-2.ensures).1
