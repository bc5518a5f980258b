-- `station_calls::calls::answered`: a refusal or an answer.
use mathlib.Core.Path.{◌∙◌}
use borrow.Author.Tests.{eq-eqb, ne_eqb}
use Rattle.station_calls.specs.Calls.{answer_of}
use Rattle.station_calls.proofs.calls.answered.Goals as goal

pub returns-then-c-ne0 : goal.returns-then-c-ne0
unfolding answer_of
returns-then-c-ne0 c = let x = c.args in
    c.refused.ensures ∙ simp (ne_eqb x.c.number 0 c.if-c-ne0.true)

pub returns : goal.returns
unfolding answer_of
returns c = let x = c.args in
    simp (eq-eqb x.c.number 0 c.if-c-ne0.false)
