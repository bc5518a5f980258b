-- `frontend::tell::waiting`: what comes first, a class that is none, or its tenths (Waits).
use mathlib.Core.Path.{sym, ◌∙◌}
use native.Mathlib.Omega.{arith}
use Rattle.parts.specs.Parts.{part}
use Rattle.frontend.proofs.Waits.{lent_long, waits_first, waits_none, waits_told, class_inside}
use Rattle.frontend.proofs.tell.waiting.Goals as goal

pub returns-then-number-ne0 : goal.returns-then-number-ne0
returns-then-number-ne0 c = let x = c.args in
    c.refused.ensures ∙ waits_first x.bytes.now x.settings.now x.class _ (c.number-number.ensures ∙ c.check_lent.ensures) c.if-number-ne0.true

pub slice_bounds-count-end : goal.slice_bounds-count-end
slice_bounds-count-end c = let e = lent_long _ _ (sym (c.number-number.ensures ∙ c.check_lent.ensures) ∙ c.if-number-ne0.false) in
    omega (arith, e)

pub returns-then-count-from : goal.returns-then-count-from
unfolding part
returns-then-count-from c = let x = c.args in
    let fine = sym (c.number-number.ensures ∙ c.check_lent.ensures) ∙ c.if-number-ne0.false in
    c.refused-then-count-from.ensures
    ∙ waits_none x.bytes.now x.settings.now x.class fine _ c.count-count.ensures.0 _ c.from.ensures c.if-count-from.true

pub tenths-list-requires : goal.tenths-list-requires
tenths-list-requires c = lent_long _ _ (sym (c.number-number.ensures ∙ c.check_lent.ensures) ∙ c.if-number-ne0.false)

pub bounds-list-from : goal.bounds-list-from
unfolding part
bounds-list-from c = let x = c.args in
    let fine = sym (c.number-number.ensures ∙ c.check_lent.ensures) ∙ c.if-number-ne0.false in
    class_inside x.bytes.now x.settings.now x.class fine _ c.count-count.ensures.0 _ c.from.ensures c.if-count-from.false
    _ c.from-2.ensures

pub returns : goal.returns
unfolding part
returns c = let x = c.args in
    let fine = sym (c.number-number.ensures ∙ c.check_lent.ensures) ∙ c.if-number-ne0.false in
    c.taken.ensures
    ∙ waits_told x.bytes.now x.settings.now x.class fine _ c.count-count.ensures.0 _
    c.from.ensures c.if-count-from.false _ _ c.from-2.ensures _ c.tenths-list.ensures c.from-3.ensures
