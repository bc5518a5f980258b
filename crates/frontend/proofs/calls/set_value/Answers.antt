-- `frontend::calls::set_value`: what comes first, a batch, or the record's own (Edits).
use mathlib.Core.Path.{sym, ◌∙◌}
use native.Mathlib.Omega.{arith}
use Rattle.octets.proofs.Laws.{Bytes}
use Rattle.increments.specs.Deeds.{values, edit_of}
use Rattle.frontend.specs.Plan.{edit}
use Rattle.frontend.proofs.First.{lent_none, edit_first, first_told, first_record}
use Rattle.frontend.proofs.Edits.{batch_edit_told, batch_edit_record, own_edit_told, own_edit_record}
use Rattle.frontend.proofs.calls.set_value.Goals as goal

pub returns-then-number-ne0-clause-value : goal.returns-then-number-ne0-clause-value
returns-then-number-ne0-clause-value c = let x = c.args in
    let e = (c.number-number.ensures ∙ c.check_lent.ensures) ∙ sym (edit_first x.bytes.now x.settings.now (values x.object x.value)) in
    let h = c.if-number-ne0.true in
    c.refused.ensures ∙ first_told x.bytes.now x.settings.now x.me (edit (values x.object x.value)) _ e h

pub returns-then-number-ne0-clause-bytes_after : goal.returns-then-number-ne0-clause-bytes_after
returns-then-number-ne0-clause-bytes_after c = let x = c.args in
    let e = (c.number-number.ensures ∙ c.check_lent.ensures) ∙ sym (edit_first x.bytes.now x.settings.now (values x.object x.value)) in
    let h = c.if-number-ne0.true in
    first_record x.bytes.now x.settings.now x.me (edit (values x.object x.value)) _ e h

pub returns-then-is_adding-clause-value : goal.returns-then-is_adding-clause-value
returns-then-is_adding-clause-value c = let x = c.args in
    let small : Bytes x.bytes.now = λ j. omega (arith, c.slice_known-1.given j) in
    let fine = sym (c.number-number.ensures ∙ c.check_lent.ensures) ∙ c.if-number-ne0.false in
    let adds = sym c.is_adding.ensures ∙ c.if-is_adding.true in
    c.refused-then-is_adding.ensures
    ∙ batch_edit_told x.bytes.now x.settings.now small fine x.me (values x.object x.value) adds _ (c.from.ensures ∙ c.not_yours.ensures)

pub returns-then-is_adding-clause-bytes_after : goal.returns-then-is_adding-clause-bytes_after
returns-then-is_adding-clause-bytes_after c = let x = c.args in
    let small : Bytes x.bytes.now = λ j. omega (arith, c.slice_known-1.given j) in
    let fine = sym (c.number-number.ensures ∙ c.check_lent.ensures) ∙ c.if-number-ne0.false in
    let adds = sym c.is_adding.ensures ∙ c.if-is_adding.true in
    batch_edit_record x.bytes.now x.settings.now small fine x.me (values x.object x.value) adds

pub set_value-requires : goal.set_value-requires
set_value-requires c = (lent_none _ _ (sym (c.number-number.ensures ∙ c.check_lent.ensures) ∙ c.if-number-ne0.false)).0

pub returns-clause-value : goal.returns-clause-value
unfolding edit_of
returns-clause-value c = let x = c.args in
    let small : Bytes x.bytes.now = λ j. omega (arith, c.slice_known-1.given j) in
    let fine = sym (c.number-number.ensures ∙ c.check_lent.ensures) ∙ c.if-number-ne0.false in
    let own = sym c.is_adding.ensures ∙ c.if-is_adding.false in
    let w = c.set_value.ensures in
    (c.from-2.ensures ∙ w.value) ∙ own_edit_told x.bytes.now x.settings.now small fine x.me (values x.object x.value) own

pub returns-clause-bytes_after : goal.returns-clause-bytes_after
unfolding edit_of
returns-clause-bytes_after c = let x = c.args in
    let small : Bytes x.bytes.now = λ j. omega (arith, c.slice_known-1.given j) in
    let fine = sym (c.number-number.ensures ∙ c.check_lent.ensures) ∙ c.if-number-ne0.false in
    let own = sym c.is_adding.ensures ∙ c.if-is_adding.false in
    let w = c.set_value.ensures in
    w.bytes_after ∙ own_edit_record x.bytes.now x.settings.now small fine x.me (values x.object x.value) own
