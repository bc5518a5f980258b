-- `closing::state::at_rest`: by the length.
use borrow.Author.Tests.{eq-eqb, ne_eqb}
use Rattle.closing.specs.State.{at_rest}
use Rattle.closing.proofs.state.at_rest.Goals as goal

pub returns-then-records-eq-RECORDS : goal.returns-then-records-eq-RECORDS
unfolding at_rest
returns-then-records-eq-RECORDS c = simp (eq-eqb _ _ c.if-records-eq-RECORDS.true) c.all_idle.ensures

pub returns-else-records-eq-RECORDS : goal.returns-else-records-eq-RECORDS
unfolding at_rest
returns-else-records-eq-RECORDS c = simp (ne_eqb _ _ c.if-records-eq-RECORDS.false)
