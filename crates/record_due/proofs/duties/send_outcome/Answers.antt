-- `record_due::duties::send_outcome`: a commit has the entries of the ask, an abort none.
use mathlib.Core.Path.{sym, ◌∙◌}
use borrow.Author.Tests.{eq-eqb, ne_eqb}
use Rattle.due.proofs.Gather.{listed_all}
use Rattle.record.specs.Record.{record_of}
use Rattle.record_due.proofs.duties.send_outcome.Goals as goal

pub returns-then-get_u8-eq-COMMITTED-clause-value : goal.returns-then-get_u8-eq-COMMITTED-clause-value
unfolding record_of
returns-then-get_u8-eq-COMMITTED-clause-value c = let k = eq-eqb _ 1 (sym c.get_u8.ensures ∙ c.if-get_u8-eq-COMMITTED.true) in
    let e = listed_all _ _ c.entries_in-g.ensures in
    let s = c.get_u32-serial.ensures in
    let t = c.get_u32-stamp.ensures in
    let w = c.write_outcome.ensures in simp k (simp (e, s, t) at w.value)

pub returns-then-get_u8-eq-COMMITTED-clause-out_after : goal.returns-then-get_u8-eq-COMMITTED-clause-out_after
unfolding record_of
returns-then-get_u8-eq-COMMITTED-clause-out_after c = let k = eq-eqb _ 1 (sym c.get_u8.ensures ∙ c.if-get_u8-eq-COMMITTED.true) in
    let e = listed_all _ _ c.entries_in-g.ensures in
    let s = c.get_u32-serial.ensures in
    let t = c.get_u32-stamp.ensures in
    let w = c.write_outcome.ensures in simp k (simp (e, s, t) at w.out_after)

pub returns-else-get_u8-eq-COMMITTED-clause-value : goal.returns-else-get_u8-eq-COMMITTED-clause-value
unfolding record_of
returns-else-get_u8-eq-COMMITTED-clause-value c = let k = ne_eqb _ 1 (λ z. c.if-get_u8-eq-COMMITTED.false (c.get_u8.ensures ∙ z)) in
    let s = c.get_u32-serial.ensures in
    let t = c.get_u32-stamp.ensures in
    let w = c.write_outcome-else-get_u8-eq-COMMITTED.ensures in simp k (simp (s, t) at w.value)

pub returns-else-get_u8-eq-COMMITTED-clause-out_after : goal.returns-else-get_u8-eq-COMMITTED-clause-out_after
unfolding record_of
returns-else-get_u8-eq-COMMITTED-clause-out_after c = let k = ne_eqb _ 1 (λ z. c.if-get_u8-eq-COMMITTED.false (c.get_u8.ensures ∙ z)) in
    let s = c.get_u32-serial.ensures in
    let t = c.get_u32-stamp.ensures in
    let w = c.write_outcome-else-get_u8-eq-COMMITTED.ensures in simp k (simp (s, t) at w.out_after)
