-- `record::look::awaited_in`: the test of the participants.
use mathlib.Core.Path.{sym, ◌∙◌}
use borrow.Author.Tests.{eq-eqb, ne_eqb}
use Rattle.record.specs.Record.{record_of}
use Rattle.record.proofs.look.awaited_in.Goals as goal

pub returns-then-participants-eq0 : goal.returns-then-participants-eq0
unfolding record_of
returns-then-participants-eq0 c = simp (eq-eqb _ 0 (sym c.get_u16-participants.ensures ∙ c.if-participants-eq0.true)) c.get_u16.ensures

pub returns-else-participants-eq0 : goal.returns-else-participants-eq0
unfolding record_of
returns-else-participants-eq0 c = simp (ne_eqb _ 0 (λ z. c.if-participants-eq0.false (c.get_u16-participants.ensures ∙ z))) c.get_u16-participants.ensures
