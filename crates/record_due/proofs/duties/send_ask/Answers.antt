-- `record_due::duties::send_ask`: the entries gathered are those of the ask.
use Rattle.due.proofs.Gather.{listed_all}
use Rattle.record.specs.Record.{record_of}
use Rattle.record_due.proofs.duties.send_ask.Goals as goal

pub returns-clause-value : goal.returns-clause-value
unfolding record_of
returns-clause-value c = let e = listed_all _ _ c.entries_in-g.ensures in
    let s = c.get_u32-serial.ensures in
    let t = c.get_u32-stamp.ensures in
    let w = c.write_ask.ensures in simp (e, s, t) at w.value

pub returns-clause-out_after : goal.returns-clause-out_after
unfolding record_of
returns-clause-out_after c = let e = listed_all _ _ c.entries_in-g.ensures in
    let s = c.get_u32-serial.ensures in
    let t = c.get_u32-stamp.ensures in
    let w = c.write_ask.ensures in simp (e, s, t) at w.out_after
