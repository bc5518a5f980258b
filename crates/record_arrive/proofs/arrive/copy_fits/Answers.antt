-- `record_arrive::arrive::copy_fits`: the tests in the definition's order.
use mathlib.Core.Path.{sym, ◌∙◌}
use Rattle.arrivals.specs.Receive.{copy_fits}
use Rattle.record.specs.Record.{record_of}
use Rattle.record_arrive.proofs.arrive.copy_fits.Goals as goal

pub returns-then-not-is_answer : goal.returns-then-not-is_answer
unfolding copy_fits record_of
returns-then-not-is_answer c = let t = sym c.is_answer.ensures ∙ c.if-not-is_answer.true in
    rw (← c.get_u16-contacted.ensures) (simp t)

pub returns : goal.returns
unfolding copy_fits record_of
returns c = let t = sym c.is_answer.ensures ∙ c.if-not-is_answer.false in
    rw (← c.get_u16-contacted.ensures) (simp t cc)
