-- `runs::start`: what the maker of a blank service leaves is what the empty list left.
use mathlib.Core.Path.{sym, subst, ◌∙◌}
use mathlib.Core.List.{[]}
use Rattle.service_calls.specs.Lent.{lent}
use Rattle.accounts.specs.Accounts.{blank_origin}
use Rattle.runs.specs.Held.{Holds}
use Rattle.runs.proofs.Demand.{begun}
use Rattle.runs.proofs.start.Goals as goal

pub returns-clause-value : goal.returns-clause-value
returns-clause-value c = let x = c.args in
    let b = lent x.images.now x.records.now x.pool.now x.own.now x.settings.now in
    let e = c.blank.ensures in c.number.ensures ∙ e.value

pub returns-clause-settings_after : goal.returns-clause-settings_after
returns-clause-settings_after c = let x = c.args in
    let b = lent x.images.now x.records.now x.pool.now x.own.now x.settings.now in
    let e = c.blank.ensures in e.settings_after

pub returns-clause-holds : goal.returns-clause-holds
returns-clause-holds c = let x = c.args in
    let b = lent x.images.now x.records.now x.pool.now x.own.now x.settings.now in
    let e = c.blank.ensures in (λ z. subst (Holds (blank_origin x.on) []) (sym e.settings_after) (begun b x.on (sym (c.number.ensures ∙ e.value) ∙ z)))
