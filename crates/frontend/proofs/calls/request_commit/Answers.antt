-- `frontend::calls::request_commit`: what comes first, or votes asked for by the kind (Votes).
use mathlib.Core.Path.{sym, ◌∙◌}
use Rattle.frontend.specs.Plan.{request}
use Rattle.frontend.proofs.First.{lent_none, request_first, first_told, first_record}
use Rattle.frontend.proofs.Votes.{votes_told, votes_record}
use Rattle.frontend.proofs.calls.request_commit.Goals as goal

pub returns-then-number-ne0-clause-value : goal.returns-then-number-ne0-clause-value
returns-then-number-ne0-clause-value c = let x = c.args in
    let e = (c.number-number.ensures ∙ c.check_lent.ensures) ∙ sym (request_first x.bytes.now x.settings.now) in
    let h = c.if-number-ne0.true in
    c.refused.ensures ∙ first_told x.bytes.now x.settings.now x.me request _ e h

pub returns-then-number-ne0-clause-bytes_after : goal.returns-then-number-ne0-clause-bytes_after
returns-then-number-ne0-clause-bytes_after c = let x = c.args in
    let e = (c.number-number.ensures ∙ c.check_lent.ensures) ∙ sym (request_first x.bytes.now x.settings.now) in
    let h = c.if-number-ne0.true in
    first_record x.bytes.now x.settings.now x.me request _ e h

pub ask-requires : goal.ask-requires
ask-requires c = (lent_none _ _ (sym (c.number-number.ensures ∙ c.check_lent.ensures) ∙ c.if-number-ne0.false)).0

pub returns-clause-value : goal.returns-clause-value
returns-clause-value c = let x = c.args in
    let fine = sym (c.number-number.ensures ∙ c.check_lent.ensures) ∙ c.if-number-ne0.false in
    let adds = c.is_adding-adding.ensures in
    let w = c.ask.ensures in
    w.value ∙ votes_told x.bytes.now x.settings.now x.me fine _ adds

pub returns-clause-bytes_after : goal.returns-clause-bytes_after
returns-clause-bytes_after c = let x = c.args in
    let fine = sym (c.number-number.ensures ∙ c.check_lent.ensures) ∙ c.if-number-ne0.false in
    let adds = c.is_adding-adding.ensures in
    let w = c.ask.ensures in
    w.bytes_after ∙ votes_record x.bytes.now x.settings.now x.me fine _ adds
