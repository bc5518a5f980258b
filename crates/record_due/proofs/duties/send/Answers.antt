-- `record_due::duties::send`: by the kind.
use borrow.Author.Tests.{ne_eqb}
use Rattle.due.specs.Due.{message_due}
use Rattle.record.specs.Record.{record_of}
use Rattle.record.proofs.Stored.{readable}
use Rattle.record_due.proofs.duties.send.Goals as goal

pub object_named-x-requires : goal.object_named-x-requires
object_named-x-requires c = readable _ c.requires

pub returns-in-1-clause-value : goal.returns-in-1-clause-value
unfolding message_due record_of
returns-in-1-clause-value c = let k = c.in-1.is in
    let e = c.object_named-x.ensures in
    let s = c.get_u32-serial.ensures in
    let t = c.get_u32-stamp.ensures in
    let w = c.write_fetch.ensures in simp k (simp (s, t, e) at w.value)

pub returns-in-1-clause-out_after : goal.returns-in-1-clause-out_after
unfolding message_due record_of
returns-in-1-clause-out_after c = let k = c.in-1.is in
    let e = c.object_named-x.ensures in
    let s = c.get_u32-serial.ensures in
    let t = c.get_u32-stamp.ensures in
    let w = c.write_fetch.ensures in simp k (simp (s, t, e) at w.out_after)

pub returns-in-3-clause-value : goal.returns-in-3-clause-value
unfolding message_due
returns-in-3-clause-value c = let k = c.in-3.is in
    let w = c.send_ask.ensures in simp k w.value

pub returns-in-3-clause-out_after : goal.returns-in-3-clause-out_after
unfolding message_due
returns-in-3-clause-out_after c = let k = c.in-3.is in
    let w = c.send_ask.ensures in simp k w.out_after

pub returns-in-5-clause-value : goal.returns-in-5-clause-value
unfolding message_due
returns-in-5-clause-value c = let k = c.in-5.is in
    let w = c.send_outcome.ensures in simp k w.value

pub returns-in-5-clause-out_after : goal.returns-in-5-clause-out_after
unfolding message_due
returns-in-5-clause-out_after c = let k = c.in-5.is in
    let w = c.send_outcome.ensures in simp k w.out_after

pub returns-in_default-clause-value : goal.returns-in_default-clause-value
unfolding message_due record_of
returns-in_default-clause-value c = let ne = c.in_default.in_default-own.rest in
    let e = c.rival_in.ensures in
    let s = c.get_u32-serial.ensures in
    let t = c.get_u32-stamp.ensures in
    let w = c.write_yield.ensures in
    let a = ne_eqb _ 1 ne.0.0.1 in
    let b = ne_eqb _ 3 ne.0.1 in
    let d = ne_eqb _ 5 ne.1 in simp (a, b, d) (simp (s, t, e) at w.value)

pub returns-in_default-clause-out_after : goal.returns-in_default-clause-out_after
unfolding message_due record_of
returns-in_default-clause-out_after c = let ne = c.in_default.in_default-own.rest in
    let e = c.rival_in.ensures in
    let s = c.get_u32-serial.ensures in
    let t = c.get_u32-stamp.ensures in
    let w = c.write_yield.ensures in
    let a = ne_eqb _ 1 ne.0.0.1 in
    let b = ne_eqb _ 3 ne.0.1 in
    let d = ne_eqb _ 5 ne.1 in simp (a, b, d) (simp (s, t, e) at w.out_after)
