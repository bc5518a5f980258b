-- `performing::concluded`: both one after the other.
use mathlib.Core.Path.{ap, ◌∙◌}
use Rattle.telling.specs.Telling.{told}
use Rattle.performing.proofs.concluded.Goals as goal

pub returns-clause-sheet : goal.returns-clause-sheet
returns-clause-sheet c = let x = c.args in
    let d = c.conclude-z.ensures in
    c.tell.ensures
    ∙ ap (told x.a.number x.o.kind x.records.now x.settings.now x.o.node) d.sheet

pub returns-clause-output : goal.returns-clause-output
returns-clause-output c = let x = c.args in
    let d = c.conclude-z.ensures in
    d.output
