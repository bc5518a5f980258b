-- `performing::perform`: its parts in their order.
use mathlib.Core.Path.{ap, ◌∙◌}
use Rattle.report.specs.Page.{page}
use Rattle.service_calls.specs.Lent.{Lent, lent}
use Rattle.performing.proofs.Taking.{step_sheet_lem, step_texts_lem}
use Rattle.performing.proofs.perform.Goals as goal

pub shape_of-out : goal.shape_of-out
shape_of-out c = c.concluded.auto.out ∙ c.result-y.auto.out ∙ c.named-x.auto.out

pub returns-clause-buffers : goal.returns-clause-buffers
returns-clause-buffers c = let x = c.args in
    let b = lent x.images.now x.records.now x.pool.now x.own.now x.settings.now in
    let s = c.step-a in
    let d = c.concluded in
    let left = s.ensures.settings_after in
    let f = ap (λ (y : Lent). y.station.pool) left in
    let k = c.count-before in
    let g = k.ensures in
    let w = c.owner_of-owner in
    let n = c.named-x in
    let r = c.result-y in
    left

pub returns-clause-sheet : goal.returns-clause-sheet
returns-clause-sheet c = let x = c.args in
    let b = lent x.images.now x.records.now x.pool.now x.own.now x.settings.now in
    let s = c.step-a in
    let d = c.concluded in
    let left = s.ensures.settings_after in
    let f = ap (λ (y : Lent). y.station.pool) left in
    let k = c.count-before in
    let g = k.ensures in
    let w = c.owner_of-owner in
    let n = c.named-x in
    let r = c.result-y in
    d.ensures.sheet
    ∙ step_sheet_lem b x.o x.list.now s.result k.result w.result _ s.ensures.value f g w.ensures _ _
    (ap (λ (y : Lent). y.station.records) left) (ap (λ (y : Lent). y.settings) left) x.sheet.now

pub returns-clause-output : goal.returns-clause-output
returns-clause-output c = let x = c.args in
    let b = lent x.images.now x.records.now x.pool.now x.own.now x.settings.now in
    let s = c.step-a in
    let d = c.concluded in
    let left = s.ensures.settings_after in
    let f = ap (λ (y : Lent). y.station.pool) left in
    let k = c.count-before in
    let g = k.ensures in
    let w = c.owner_of-owner in
    let n = c.named-x in
    let r = c.result-y in
    step_texts_lem b x.o x.list.now s.result k.result w.result _ s.ensures.value f g
    (page x.out.now x.at) (page n.new.out n.result) (page r.new.out r.result)
    (page d.new.out d.result) n.ensures r.ensures d.ensures.output
