-- `host::stations::senna_station_load_classes`: the step by the front end, which leaves the records.
use mathlib.Core.Path.{ap, ◌∙◌}
use mathlib.Core.List.{[]}
use native.Mathlib.Omega.{arith}
use Rattle.octets.proofs.Laws.{Bytes}
use Rattle.frontend.specs.Plan.{load_classes}
use Rattle.frontend.specs.declared.Ask.{Ask}
use Rattle.frontend.specs.Asked.{call_by, call_of}
use Rattle.service_calls.specs.Lent.{lent}
use Rattle.host.proofs.Told.{step_same}
use Rattle.host.proofs.Alone.{classes_stays}
use Rattle.host.proofs.stations.senna_station_load_classes.Goals as goal

pub returns-clause-value : goal.returns-clause-value
unfolding call_by
returns-clause-value c = let x = c.args in
    let b = lent [] x.records.now [] x.own.now x.settings.now in
    let small : Bytes x.records.now = λ j. omega (arith, c.slice_known-1.given j) in
    let p = ap (λ (y : Ask). call_of y x.list.now) c.ask_object.ensures in
    let w = step_same b x.node _ (load_classes x.list.now) _ _ _ p (c.front.ensures.value, (c.front.ensures.records_after, c.front.ensures.settings_after))
    in w.0

pub returns-clause-records_after : goal.returns-clause-records_after
unfolding call_by
returns-clause-records_after c = let x = c.args in
    let b = lent [] x.records.now [] x.own.now x.settings.now in
    let small : Bytes x.records.now = λ j. omega (arith, c.slice_known-1.given j) in
    let p = ap (λ (y : Ask). call_of y x.list.now) c.ask_object.ensures in
    let w = step_same b x.node _ (load_classes x.list.now) _ _ _ p (c.front.ensures.value, (c.front.ensures.records_after, c.front.ensures.settings_after))
    in w.1.0

pub returns-clause-settings_after : goal.returns-clause-settings_after
unfolding call_by
returns-clause-settings_after c = let x = c.args in
    let b = lent [] x.records.now [] x.own.now x.settings.now in
    let small : Bytes x.records.now = λ j. omega (arith, c.slice_known-1.given j) in
    let p = ap (λ (y : Ask). call_of y x.list.now) c.ask_object.ensures in
    let w = step_same b x.node _ (load_classes x.list.now) _ _ _ p (c.front.ensures.value, (c.front.ensures.records_after, c.front.ensures.settings_after))
    in w.1.1

pub returns-clause-records_unchanged : goal.returns-clause-records_unchanged
unfolding call_by
returns-clause-records_unchanged c = let x = c.args in
    let b = lent [] x.records.now [] x.own.now x.settings.now in
    let small : Bytes x.records.now = λ j. omega (arith, c.slice_known-1.given j) in
    let p = ap (λ (y : Ask). call_of y x.list.now) c.ask_object.ensures in
    let w = step_same b x.node _ (load_classes x.list.now) _ _ _ p (c.front.ensures.value, (c.front.ensures.records_after, c.front.ensures.settings_after))
    in w.1.0 ∙ classes_stays x.records.now x.own.now x.settings.now x.node small x.list.now
