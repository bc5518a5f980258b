-- `host::stations::senna_station_begin`: distances of another length, or the step by the front end.
use mathlib.Core.Path.{refl, ap, ◌∙◌}
use mathlib.Core.List.{[]}
use borrow.Author.Tests.{ne_eqb}
use Rattle.frontend.specs.declared.Ask.{Ask}
use Rattle.frontend.specs.Asked.{call_by, call_of}
use Rattle.service_calls.specs.Lent.{lent}
use Rattle.host.proofs.Told.{taken_begin_told, taken_begin_records, taken_begin_settings}
use Rattle.host.specs.Stations.{begin_told_with, begin_records_with, begin_settings_with}
use Rattle.host.proofs.stations.senna_station_begin.Goals as goal

pub returns-then-distances-ne-DISTANCES-clause-value : goal.returns-then-distances-ne-DISTANCES-clause-value
unfolding begin_told_with begin_records_with begin_settings_with
returns-then-distances-ne-DISTANCES-clause-value c = simp (ne_eqb _ 26 c.if-distances-ne-DISTANCES.true) c.wrong_length.ensures

pub returns-then-distances-ne-DISTANCES-clause-records_after : goal.returns-then-distances-ne-DISTANCES-clause-records_after
unfolding begin_told_with begin_records_with begin_settings_with
returns-then-distances-ne-DISTANCES-clause-records_after c = simp (ne_eqb _ 26 c.if-distances-ne-DISTANCES.true) refl

pub returns-then-distances-ne-DISTANCES-clause-settings_after : goal.returns-then-distances-ne-DISTANCES-clause-settings_after
unfolding begin_told_with begin_records_with begin_settings_with
returns-then-distances-ne-DISTANCES-clause-settings_after c = simp (ne_eqb _ 26 c.if-distances-ne-DISTANCES.true) refl

pub returns-clause-value : goal.returns-clause-value
unfolding call_by
returns-clause-value c = let x = c.args in
    let b = lent [] x.records.now [] x.own.now x.settings.now in
    let d = x.distances.now in
    let e = c.if-distances-ne-DISTANCES.false in
    let p = ap (λ (y : Ask). call_of y []) c.ask_begin-a.ensures in
    let w = c.front.ensures in
    w.value ∙ taken_begin_told d b x.node _ _ e p

pub returns-clause-records_after : goal.returns-clause-records_after
unfolding call_by
returns-clause-records_after c = let x = c.args in
    let b = lent [] x.records.now [] x.own.now x.settings.now in
    let d = x.distances.now in
    let e = c.if-distances-ne-DISTANCES.false in
    let p = ap (λ (y : Ask). call_of y []) c.ask_begin-a.ensures in
    let w = c.front.ensures in w.records_after ∙ taken_begin_records d b x.node _ _ e p

pub returns-clause-settings_after : goal.returns-clause-settings_after
unfolding call_by
returns-clause-settings_after c = let x = c.args in
    let b = lent [] x.records.now [] x.own.now x.settings.now in
    let d = x.distances.now in
    let e = c.if-distances-ne-DISTANCES.false in
    let p = ap (λ (y : Ask). call_of y []) c.ask_begin-a.ensures in
    let w = c.front.ensures in w.settings_after ∙ taken_begin_settings d b x.node _ _ e p
