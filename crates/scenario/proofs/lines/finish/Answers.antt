-- `scenario::lines::finish`: the last line, then the end of the scenario that runs.
use Rattle.report.specs.Page.{page}
use Rattle.service_calls.specs.Lent.{lent}
use Rattle.scenario.proofs.Ended.{last_texts_lem}
use Rattle.scenario.proofs.lines.finish.Goals as goal

pub returns-clause-buffers : goal.returns-clause-buffers
returns-clause-buffers c = let x = c.args in
    let b = lent x.images.now x.records.now x.pool.now x.own.now x.settings.now in
    let a = c.line-t in
    let e = a.ensures in
    let d = c.ended in
    e.buffers

pub returns-clause-list : goal.returns-clause-list
returns-clause-list c = let x = c.args in
    let b = lent x.images.now x.records.now x.pool.now x.own.now x.settings.now in
    let a = c.line-t in
    let e = a.ensures in
    let d = c.ended in
    e.list

pub returns-clause-sheet : goal.returns-clause-sheet
returns-clause-sheet c = let x = c.args in
    let b = lent x.images.now x.records.now x.pool.now x.own.now x.settings.now in
    let a = c.line-t in
    let e = a.ensures in
    let d = c.ended in
    e.sheet

pub returns-clause-output : goal.returns-clause-output
returns-clause-output c = let x = c.args in
    let b = lent x.images.now x.records.now x.pool.now x.own.now x.settings.now in
    let a = c.line-t in
    let e = a.ensures in
    let d = c.ended in
    last_texts_lem x.r a.result.reader x.list.now b _ x.sheet.now _ (page x.out.now 0)
    (page a.new.out a.result.written) (page d.new.out d.result)
    e.reader e.buffers e.sheet e.output d.ensures
