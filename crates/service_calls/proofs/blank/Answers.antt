-- `service_calls::blank`: the length of the settings, the station's own maker, then zeros.
use mathlib.Core.Path.{◌≡◌, sym, ◌∙◌}
use borrow.Author.Rules.{rules}
use Rattle.numbers.specs.Outcome.{code_of, number_of}
use Rattle.numbers.proofs.Outcome.{code_counts}
use Rattle.station_calls.specs.Calls.{blank_number as stationNumber}
use Rattle.service_calls.specs.Lent.{lent}
use Rattle.service_calls.proofs.Blanking.{short_blank, same_number, refused_blank, made_blank}
use Rattle.service_calls.proofs.blank.Goals as goal

pub returns-then-settings-ne-SETTINGS-clause-value : goal.returns-then-settings-ne-SETTINGS-clause-value
returns-then-settings-ne-SETTINGS-clause-value c = let x = c.args
    in (short_blank (lent x.images.now x.records.now x.pool.now x.own.now x.settings.now) x.on c.if-settings-ne-SETTINGS.true).0

pub returns-then-settings-ne-SETTINGS-clause-settings_after : goal.returns-then-settings-ne-SETTINGS-clause-settings_after
returns-then-settings-ne-SETTINGS-clause-settings_after c = let x = c.args
    in (short_blank (lent x.images.now x.records.now x.pool.now x.own.now x.settings.now) x.on c.if-settings-ne-SETTINGS.true).1

pub returns-in_err-blank-clause-value : goal.returns-in_err-blank-clause-value
returns-in_err-blank-clause-value c = let x = c.args in
    let b = lent x.images.now x.records.now x.pool.now x.own.now x.settings.now in
    let same : number_of c.from_residual.result ≡ code_of c.in_err-blank.field-0.0 = search rules in
    same ∙ c.in_err-blank.ensures.value ∙ sym (same_number b x.on c.if-settings-ne-SETTINGS.false)

pub returns-in_err-blank-clause-settings_after : goal.returns-in_err-blank-clause-settings_after
returns-in_err-blank-clause-settings_after c = let x = c.args in
    let b = lent x.images.now x.records.now x.pool.now x.own.now x.settings.now in
    let e = c.in_err-blank.ensures in
    let l = c.if-settings-ne-SETTINGS.false in
    let h : stationNumber b.station x.on ≡ 0 → ⊥ = λ z. code_counts c.in_err-blank.field-0.0 (e.value ∙ z) in
    (λ j. lent (e.images_after j) (e.records_after j) (e.pool_after j) (e.own_after j) x.settings.now) ∙ refused_blank b x.on l h

pub returns-clause-value : goal.returns-clause-value
returns-clause-value c = let x = c.args in
    let b = lent x.images.now x.records.now x.pool.now x.own.now x.settings.now in
    c.in_ok-blank.ensures.value ∙ sym (same_number b x.on c.if-settings-ne-SETTINGS.false)

pub returns-clause-settings_after : goal.returns-clause-settings_after
returns-clause-settings_after c = let x = c.args in
    let b = lent x.images.now x.records.now x.pool.now x.own.now x.settings.now in
    let e = c.in_ok-blank.ensures in
    let z = c.zero.ensures in
    (λ j. lent (e.images_after j) (e.records_after j) (e.pool_after j) (e.own_after j) (z j))
    ∙ made_blank b x.on c.if-settings-ne-SETTINGS.false (sym e.value)
