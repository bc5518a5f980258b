-- `due::send_ask`: the entries gathered are those of the ask.
use Rattle.due.proofs.Gather.{listed_all}
use Rattle.due.proofs.send_ask.Goals as goal

pub returns-clause-value : goal.returns-clause-value
returns-clause-value c = let g = c.entries_of-g in
    let w = c.write_ask.ensures in
    let e = listed_all _ _ g.ensures in simp e at w.value

pub returns-clause-out_after : goal.returns-clause-out_after
returns-clause-out_after c = let g = c.entries_of-g in
    let w = c.write_ask.ensures in
    let e = listed_all _ _ g.ensures in simp e at w.out_after
