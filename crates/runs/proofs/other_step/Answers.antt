-- `runs::other_step`: by the kind, the station's own step; 5 for a host's call.
use borrow.Enum.Refused.{opened}
use Rattle.runs.proofs.Tags.{host_key}
use Rattle.runs.proofs.Orders.{send_tells, delivery_tells, drop_tells, switch_tells, other_none}
use Rattle.runs.proofs.other_step.Goals as goal

pub returns-in-Send-clause-by_index : goal.returns-in-Send-clause-by_index
returns-in-Send-clause-by_index c = let x = c.args in
    let e = c.send.ensures in (send_tells x.images.now x.records.now x.pool.now x.own.now x.o c.in-Send.is _ _ e.value e.pool_after).0

pub returns-in-Send-clause-by_index_2 : goal.returns-in-Send-clause-by_index_2
returns-in-Send-clause-by_index_2 c = let x = c.args in
    let e = c.send.ensures in (send_tells x.images.now x.records.now x.pool.now x.own.now x.o c.in-Send.is _ _ e.value e.pool_after).1

pub returns-in-Deliver-clause-by_index : goal.returns-in-Deliver-clause-by_index
returns-in-Deliver-clause-by_index c = let x = c.args in
    let e = c.deliver.ensures in (delivery_tells x.images.now x.records.now x.pool.now x.own.now x.o
    c.in-Deliver.is _ _ _ _
    e.value e.images_after e.records_after e.pool_after).0

pub returns-in-Deliver-clause-by_index_2 : goal.returns-in-Deliver-clause-by_index_2
returns-in-Deliver-clause-by_index_2 c = let x = c.args in
    let e = c.deliver.ensures in (delivery_tells x.images.now x.records.now x.pool.now x.own.now x.o
    c.in-Deliver.is _ _ _ _
    e.value e.images_after e.records_after e.pool_after).1

pub returns-in-Drop-clause-by_index : goal.returns-in-Drop-clause-by_index
returns-in-Drop-clause-by_index c = let x = c.args in
    let e = c.drop.ensures in (drop_tells x.images.now x.records.now x.pool.now x.own.now x.o c.in-Drop.is _ _
    e.value e.pool_after).0

pub returns-in-Drop-clause-by_index_2 : goal.returns-in-Drop-clause-by_index_2
returns-in-Drop-clause-by_index_2 c = let x = c.args in
    let e = c.drop.ensures in (drop_tells x.images.now x.records.now x.pool.now x.own.now x.o c.in-Drop.is _ _
    e.value e.pool_after).1

pub returns-in-Switch-clause-by_index : goal.returns-in-Switch-clause-by_index
returns-in-Switch-clause-by_index c = let x = c.args in
    let e = c.switch.ensures in (switch_tells x.images.now x.records.now x.pool.now x.own.now x.o c.in-Switch.is _ _
    e.value e.own_after).0

pub returns-in-Switch-clause-by_index_2 : goal.returns-in-Switch-clause-by_index_2
returns-in-Switch-clause-by_index_2 c = let x = c.args in
    let e = c.switch.ensures in (switch_tells x.images.now x.records.now x.pool.now x.own.now x.o c.in-Switch.is _ _
    e.value e.own_after).1

pub returns-in_default-clause-by_index : goal.returns-in_default-clause-by_index
returns-in_default-clause-by_index c = let x = c.args
    in (other_none x.images.now x.records.now x.pool.now x.own.now x.o (host_key x.o.kind (opened c.in_default.in_default-own.keys5)) _
    c.refused.ensures).0

pub returns-in_default-clause-by_index_2 : goal.returns-in_default-clause-by_index_2
returns-in_default-clause-by_index_2 c = let x = c.args
    in (other_none x.images.now x.records.now x.pool.now x.own.now x.o (host_key x.o.kind (opened c.in_default.in_default-own.keys5)) _
    c.refused.ensures).1
