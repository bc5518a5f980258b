-- `runs::ask_of`: the act of the kind, and the rest as it is.
use mathlib.Core.Path.{ap}
use Rattle.frontend.specs.declared.Act.{Act}
use Rattle.frontend.specs.declared.Ask.{Ask}
use Rattle.runs.proofs.ask_of.Goals as goal

pub returns : goal.returns
returns c = let o = c.args.o in
    let with-act : Act → Ask =
    λ a. record { act = a; with = o.with; object = o.object; value = o.value; day = o.day; minute = o.minute } in
    ap with-act c.act_of.ensures
