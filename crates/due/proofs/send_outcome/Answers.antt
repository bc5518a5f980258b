-- `due::send_outcome`: a commit has the entries of the ask, an abort none.
use borrow.Author.Tests.{eq-eqb, ne_eqb}
use Rattle.due.proofs.Gather.{listed_all}
use Rattle.due.proofs.send_outcome.Goals as goal

pub returns-then-c-eq-COMMITTED-clause-value : goal.returns-then-c-eq-COMMITTED-clause-value
returns-then-c-eq-COMMITTED-clause-value c = let t = eq-eqb _ 1 c.if-c-eq-COMMITTED.true in
    let w = c.write_outcome.ensures in
    let e = listed_all _ _ c.entries_of-g.ensures in simp t (simp e at w.value)

pub returns-then-c-eq-COMMITTED-clause-out_after : goal.returns-then-c-eq-COMMITTED-clause-out_after
returns-then-c-eq-COMMITTED-clause-out_after c = let t = eq-eqb _ 1 c.if-c-eq-COMMITTED.true in
    let w = c.write_outcome.ensures in
    let e = listed_all _ _ c.entries_of-g.ensures in simp t (simp e at w.out_after)

pub returns-else-c-eq-COMMITTED-clause-value : goal.returns-else-c-eq-COMMITTED-clause-value
returns-else-c-eq-COMMITTED-clause-value c = let t = ne_eqb _ 1 c.if-c-eq-COMMITTED.false in
    let w = c.write_outcome-else-c-eq-COMMITTED.ensures in simp t w.value

pub returns-else-c-eq-COMMITTED-clause-out_after : goal.returns-else-c-eq-COMMITTED-clause-out_after
returns-else-c-eq-COMMITTED-clause-out_after c = let t = ne_eqb _ 1 c.if-c-eq-COMMITTED.false in
    let w = c.write_outcome-else-c-eq-COMMITTED.ensures in simp t w.out_after
