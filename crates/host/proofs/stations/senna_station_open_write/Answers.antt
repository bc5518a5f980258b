-- `host::stations::senna_station_open_write`: the step by the front end, which leaves the settings.
use mathlib.Core.Path.{ap, ◌∙◌}
use mathlib.Core.List.{[]}
use Rattle.increments.specs.Deeds.{writes}
use Rattle.frontend.specs.Plan.{edit}
use Rattle.frontend.specs.declared.Ask.{Ask}
use Rattle.frontend.specs.Asked.{call_by, call_of}
use Rattle.service_calls.specs.Lent.{lent}
use Rattle.host.proofs.Told.{step_same}
use Rattle.host.proofs.Alone.{edit_stays}
use Rattle.host.proofs.stations.senna_station_open_write.Goals as goal

pub returns-clause-value : goal.returns-clause-value
unfolding call_by
returns-clause-value c = let x = c.args in
    let b = lent [] x.records.now [] x.own.now x.settings.now in
    let p = ap (λ (y : Ask). call_of y []) c.ask_object.ensures in
    let w = step_same b x.node _ (edit (writes x.object)) _ _ _ p (c.front.ensures.value, (c.front.ensures.records_after, c.front.ensures.settings_after))
    in w.0

pub returns-clause-records_after : goal.returns-clause-records_after
unfolding call_by
returns-clause-records_after c = let x = c.args in
    let b = lent [] x.records.now [] x.own.now x.settings.now in
    let p = ap (λ (y : Ask). call_of y []) c.ask_object.ensures in
    let w = step_same b x.node _ (edit (writes x.object)) _ _ _ p (c.front.ensures.value, (c.front.ensures.records_after, c.front.ensures.settings_after))
    in w.1.0

pub returns-clause-settings_after : goal.returns-clause-settings_after
unfolding call_by
returns-clause-settings_after c = let x = c.args in
    let b = lent [] x.records.now [] x.own.now x.settings.now in
    let p = ap (λ (y : Ask). call_of y []) c.ask_object.ensures in
    let w = step_same b x.node _ (edit (writes x.object)) _ _ _ p (c.front.ensures.value, (c.front.ensures.records_after, c.front.ensures.settings_after))
    in w.1.1

pub returns-clause-settings_unchanged : goal.returns-clause-settings_unchanged
unfolding call_by
returns-clause-settings_unchanged c = let x = c.args in
    let b = lent [] x.records.now [] x.own.now x.settings.now in
    let p = ap (λ (y : Ask). call_of y []) c.ask_object.ensures in
    let w = step_same b x.node _ (edit (writes x.object)) _ _ _ p (c.front.ensures.value, (c.front.ensures.records_after, c.front.ensures.settings_after))
    in w.1.1 ∙ edit_stays x.records.now x.own.now x.settings.now x.node (writes x.object)
