-- `runs::host_step`: by the kind, the station's own step, hours loaded, or a front end's call; 5 for any other.
use mathlib.Core.Path.{refl, ap, ◌∙◌}
use Rattle.coordinator.specs.System.{tree}
use Rattle.coordinator.specs.Calls.{found_of, reselect_of, abort_of}
use Rattle.steps.specs.Step.{found, reselect, abort, step}
use Rattle.buffers.specs.Buffers.{record_in}
use Rattle.holding.specs.Left.{told_of, left_of}
use Rattle.frontend.specs.declared.Ask.{Ask}
use Rattle.frontend.specs.Asked.{call_of as actsCall}
use Rattle.orders.specs.declared.Kind.TheVariants.{Found, Reselect, Abort, Send, Deliver, Drop, Switch}
use Rattle.service_calls.specs.Lent.{lent, front_told, front_records, front_settings}
use mathlib.Core.List.{[]}
use Rattle.runs.specs.Order.{call_by}
use Rattle.runs.proofs.Tags.{planned_key}
use Rattle.runs.proofs.Orders.{plain_tells, front_tells, load_tells, host_none}
use Rattle.runs.proofs.host_step.Goals as goal

pub returns-in-Found-clause-by_index : goal.returns-in-Found-clause-by_index
unfolding call_by told_of left_of step
returns-in-Found-clause-by_index c = let x = c.args in
    let n = x.o.node in
    let e = c.found.ensures in (plain_tells x.records.now x.own.now x.settings.now x.list.now x.o Found
    c.in-Found.is refl n (found n x.o.object) refl
    (found_of tree (record_in x.records.now n) n x.o.object) refl
    (λ I P. refl) (λ I P. refl) (λ I P. refl) _ _ e.value e.records_after).0

pub returns-in-Found-clause-by_index_2 : goal.returns-in-Found-clause-by_index_2
unfolding call_by told_of left_of step
returns-in-Found-clause-by_index_2 c = let x = c.args in
    let n = x.o.node in
    let e = c.found.ensures in (plain_tells x.records.now x.own.now x.settings.now x.list.now x.o Found
    c.in-Found.is refl n (found n x.o.object) refl
    (found_of tree (record_in x.records.now n) n x.o.object) refl
    (λ I P. refl) (λ I P. refl) (λ I P. refl) _ _ e.value e.records_after).1

pub returns-in-Reselect-clause-by_index : goal.returns-in-Reselect-clause-by_index
unfolding call_by told_of left_of step
returns-in-Reselect-clause-by_index c = let x = c.args in
    let n = x.o.node in
    let e = c.reselect.ensures in (plain_tells x.records.now x.own.now x.settings.now x.list.now x.o Reselect
    c.in-Reselect.is refl n (reselect n x.o.with.live x.o.with.distances) refl
    (reselect_of tree (record_in x.records.now n) n x.o.with.live x.o.with.distances) refl
    (λ I P. refl) (λ I P. refl) (λ I P. refl) _ _ e.value e.records_after).0

pub returns-in-Reselect-clause-by_index_2 : goal.returns-in-Reselect-clause-by_index_2
unfolding call_by told_of left_of step
returns-in-Reselect-clause-by_index_2 c = let x = c.args in
    let n = x.o.node in
    let e = c.reselect.ensures in (plain_tells x.records.now x.own.now x.settings.now x.list.now x.o Reselect
    c.in-Reselect.is refl n (reselect n x.o.with.live x.o.with.distances) refl
    (reselect_of tree (record_in x.records.now n) n x.o.with.live x.o.with.distances) refl
    (λ I P. refl) (λ I P. refl) (λ I P. refl) _ _ e.value e.records_after).1

pub returns-in-Abort-clause-by_index : goal.returns-in-Abort-clause-by_index
unfolding call_by told_of left_of step
returns-in-Abort-clause-by_index c = let x = c.args in
    let n = x.o.node in
    let e = c.abort.ensures in (plain_tells x.records.now x.own.now x.settings.now x.list.now x.o Abort
    c.in-Abort.is refl n (abort n) refl
    (abort_of (record_in x.records.now n) n) refl
    (λ I P. refl) (λ I P. refl) (λ I P. refl) _ _ e.value e.records_after).0

pub returns-in-Abort-clause-by_index_2 : goal.returns-in-Abort-clause-by_index_2
unfolding call_by told_of left_of step
returns-in-Abort-clause-by_index_2 c = let x = c.args in
    let n = x.o.node in
    let e = c.abort.ensures in (plain_tells x.records.now x.own.now x.settings.now x.list.now x.o Abort
    c.in-Abort.is refl n (abort n) refl
    (abort_of (record_in x.records.now n) n) refl
    (λ I P. refl) (λ I P. refl) (λ I P. refl) _ _ e.value e.records_after).1

pub returns-in-LoadHours-clause-by_index : goal.returns-in-LoadHours-clause-by_index
returns-in-LoadHours-clause-by_index c = let x = c.args in
    let e = c.load_hours.ensures in (load_tells x.records.now x.own.now x.settings.now x.list.now x.o
    c.in-LoadHours.is _ _ e.value e.settings_after).0

pub returns-in-LoadHours-clause-by_index_2 : goal.returns-in-LoadHours-clause-by_index_2
returns-in-LoadHours-clause-by_index_2 c = let x = c.args in
    let e = c.load_hours.ensures in (load_tells x.records.now x.own.now x.settings.now x.list.now x.o
    c.in-LoadHours.is _ _ e.value e.settings_after).1

pub returns-in-Send-clause-by_index : goal.returns-in-Send-clause-by_index
returns-in-Send-clause-by_index c = let x = c.args
    in (host_none x.records.now x.own.now x.settings.now x.list.now x.o Send c.in-Send.is refl _ c.refused.ensures).0

pub returns-in-Send-clause-by_index_2 : goal.returns-in-Send-clause-by_index_2
returns-in-Send-clause-by_index_2 c = let x = c.args
    in (host_none x.records.now x.own.now x.settings.now x.list.now x.o Send c.in-Send.is refl _ c.refused.ensures).1

pub returns-in-Deliver-clause-by_index : goal.returns-in-Deliver-clause-by_index
returns-in-Deliver-clause-by_index c = let x = c.args in (host_none x.records.now x.own.now x.settings.now x.list.now x.o Deliver c.in-Deliver.is refl _
    c.refused-in-Deliver.ensures).0

pub returns-in-Deliver-clause-by_index_2 : goal.returns-in-Deliver-clause-by_index_2
returns-in-Deliver-clause-by_index_2 c = let x = c.args in (host_none x.records.now x.own.now x.settings.now x.list.now x.o Deliver c.in-Deliver.is refl _
    c.refused-in-Deliver.ensures).1

pub returns-in-Drop-clause-by_index : goal.returns-in-Drop-clause-by_index
returns-in-Drop-clause-by_index c = let x = c.args
    in (host_none x.records.now x.own.now x.settings.now x.list.now x.o Drop c.in-Drop.is refl _ c.refused-in-Drop.ensures).0

pub returns-in-Drop-clause-by_index_2 : goal.returns-in-Drop-clause-by_index_2
returns-in-Drop-clause-by_index_2 c = let x = c.args
    in (host_none x.records.now x.own.now x.settings.now x.list.now x.o Drop c.in-Drop.is refl _ c.refused-in-Drop.ensures).1

pub returns-in-Switch-clause-by_index : goal.returns-in-Switch-clause-by_index
returns-in-Switch-clause-by_index c = let x = c.args in (host_none x.records.now x.own.now x.settings.now x.list.now x.o Switch c.in-Switch.is refl _
    c.refused-in-Switch.ensures).0

pub returns-in-Switch-clause-by_index_2 : goal.returns-in-Switch-clause-by_index_2
returns-in-Switch-clause-by_index_2 c = let x = c.args in (host_none x.records.now x.own.now x.settings.now x.list.now x.o Switch c.in-Switch.is refl _
    c.refused-in-Switch.ensures).1

pub returns-in_default-clause-by_index : goal.returns-in_default-clause-by_index
returns-in_default-clause-by_index c = let x = c.args in
    let R = x.records.now in
    let O = x.own.now in
    let S = x.settings.now in
    let list = x.list.now in
    let e = c.front.ensures in
    let q = c.ask_of.ensures in
    let b = lent [] R [] O S in (front_tells R O S list x.o (planned_key x.o.kind c.in_default.in_default-own.keys9) _ _ _
    (e.value ∙ ap (λ (a : Ask). front_told b x.o.node (actsCall a list)) q)
    (e.records_after ∙ ap (λ (a : Ask). front_records b x.o.node (actsCall a list)) q)
    (e.settings_after ∙ ap (λ (a : Ask). front_settings b x.o.node (actsCall a list)) q)).0

pub returns-in_default-clause-by_index_2 : goal.returns-in_default-clause-by_index_2
returns-in_default-clause-by_index_2 c = let x = c.args in
    let R = x.records.now in
    let O = x.own.now in
    let S = x.settings.now in
    let list = x.list.now in
    let e = c.front.ensures in
    let q = c.ask_of.ensures in
    let b = lent [] R [] O S in (front_tells R O S list x.o (planned_key x.o.kind c.in_default.in_default-own.keys9) _ _ _
    (e.value ∙ ap (λ (a : Ask). front_told b x.o.node (actsCall a list)) q)
    (e.records_after ∙ ap (λ (a : Ask). front_records b x.o.node (actsCall a list)) q)
    (e.settings_after ∙ ap (λ (a : Ask). front_settings b x.o.node (actsCall a list)) q)).1
