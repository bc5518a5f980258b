-- `scenario::lines::stepped`: the line, then the step.
use Rattle.report.specs.Page.{page, behind}
use Rattle.service_calls.specs.Lent.{lent}
use Rattle.performing.specs.Steps.{step_texts}
use Rattle.reading.specs.Notes.{echo_texts}
use Rattle.scenario.proofs.lines.stepped.Goals as goal

pub returns-clause-reader : goal.returns-clause-reader
returns-clause-reader c = let x = c.args in
    let b = lent x.images.now x.records.now x.pool.now x.own.now x.settings.now in
    let a = c.echo-a in
    let s = c.perform-b in
    c.next-t.ensures

pub returns-clause-buffers : goal.returns-clause-buffers
returns-clause-buffers c = let x = c.args in
    let b = lent x.images.now x.records.now x.pool.now x.own.now x.settings.now in
    let a = c.echo-a in
    let s = c.perform-b in
    s.ensures.buffers

pub returns-clause-sheet : goal.returns-clause-sheet
returns-clause-sheet c = let x = c.args in
    let b = lent x.images.now x.records.now x.pool.now x.own.now x.settings.now in
    let a = c.echo-a in
    let s = c.perform-b in
    s.ensures.sheet

pub returns-clause-output : goal.returns-clause-output
returns-clause-output c = let x = c.args in
    let b = lent x.images.now x.records.now x.pool.now x.own.now x.settings.now in
    let a = c.echo-a in
    let s = c.perform-b in
    behind (page x.out.now 0) (page a.new.out a.result) (page s.new.out s.result) (echo_texts x.r)
    (step_texts b x.o x.list.now) a.ensures s.ensures.output
