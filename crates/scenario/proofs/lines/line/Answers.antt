-- `scenario::lines::line`: by what the line is.
use mathlib.Core.Path.{ap, ◌∙◌}
use mathlib.Core.List.{[], ◌++◌}
use Rattle.report.specs.Page.{page, inks}
use Rattle.service_calls.specs.Lent.{lent}
use Rattle.orders.specs.declared.Order.{Order}
use Rattle.runs.specs.Order.{call_of}
use Rattle.runs.specs.Left.{left_of}
use Rattle.script.specs.declared.Parsed.{Parsed}
use Rattle.script.specs.Parse.{parsed}
use Rattle.reading.specs.declared.Reader.{Reader}
use Rattle.reading.specs.Reading.{next}
use Rattle.performing.specs.Steps.{step_texts, step_sheet}
use Rattle.reading.specs.Notes.{echo_texts, complaint_texts}
use Rattle.scenario.specs.Lines.{laid_reader, laid_buffers, laid_sheet, laid_texts, reader_ways, buffers_ways, list_ways}
use Rattle.scenario.specs.Lines.{sheet_ways, texts_ways, line_reader, line_buffers, line_list, line_sheet, line_texts}
use Rattle.scenario.proofs.Ended.{by_blank, by_step, by_clock, by_list, by_laid, by_other}
use Rattle.scenario.proofs.lines.line.Goals as goal

pub returns-then-p-eq-BLANK-clause-reader : goal.returns-then-p-eq-BLANK-clause-reader
unfolding line_reader line_buffers line_list line_sheet line_texts
returns-then-p-eq-BLANK-clause-reader c = let x = c.args in
    let r = x.r in
    let b = lent x.images.now x.records.now x.pool.now x.own.now x.settings.now in
    let l = x.list.now in
    let s = x.sheet.now in
    let u = page x.out.now 0 in
    let p = c.parse-p.result in
    let q = parsed r.said in
    let e = c.parse-p.ensures in
    let f = c.if-p-eq-BLANK.true in
    let a = c.anew.ensures in
    a.reader ∙ by_blank (reader_ways r l) p q e f

pub returns-then-p-eq-BLANK-clause-buffers : goal.returns-then-p-eq-BLANK-clause-buffers
unfolding line_reader line_buffers line_list line_sheet line_texts
returns-then-p-eq-BLANK-clause-buffers c = let x = c.args in
    let r = x.r in
    let b = lent x.images.now x.records.now x.pool.now x.own.now x.settings.now in
    let l = x.list.now in
    let s = x.sheet.now in
    let u = page x.out.now 0 in
    let p = c.parse-p.result in
    let q = parsed r.said in
    let e = c.parse-p.ensures in
    let f = c.if-p-eq-BLANK.true in
    let a = c.anew.ensures in
    a.buffers ∙ by_blank (buffers_ways r l b) p q e f

pub returns-then-p-eq-BLANK-clause-list : goal.returns-then-p-eq-BLANK-clause-list
unfolding line_reader line_buffers line_list line_sheet line_texts
returns-then-p-eq-BLANK-clause-list c = let x = c.args in
    let r = x.r in
    let b = lent x.images.now x.records.now x.pool.now x.own.now x.settings.now in
    let l = x.list.now in
    let s = x.sheet.now in
    let u = page x.out.now 0 in
    let p = c.parse-p.result in
    let q = parsed r.said in
    let e = c.parse-p.ensures in
    let f = c.if-p-eq-BLANK.true in
    let a = c.anew.ensures in
    by_blank (list_ways r l) p q e f

pub returns-then-p-eq-BLANK-clause-sheet : goal.returns-then-p-eq-BLANK-clause-sheet
unfolding line_reader line_buffers line_list line_sheet line_texts
returns-then-p-eq-BLANK-clause-sheet c = let x = c.args in
    let r = x.r in
    let b = lent x.images.now x.records.now x.pool.now x.own.now x.settings.now in
    let l = x.list.now in
    let s = x.sheet.now in
    let u = page x.out.now 0 in
    let p = c.parse-p.result in
    let q = parsed r.said in
    let e = c.parse-p.ensures in
    let f = c.if-p-eq-BLANK.true in
    let a = c.anew.ensures in
    a.sheet ∙ by_blank (sheet_ways r l b s) p q e f

pub returns-then-p-eq-BLANK-clause-output : goal.returns-then-p-eq-BLANK-clause-output
unfolding line_reader line_buffers line_list line_sheet line_texts
returns-then-p-eq-BLANK-clause-output c = let x = c.args in
    let r = x.r in
    let b = lent x.images.now x.records.now x.pool.now x.own.now x.settings.now in
    let l = x.list.now in
    let s = x.sheet.now in
    let u = page x.out.now 0 in
    let p = c.parse-p.result in
    let q = parsed r.said in
    let e = c.parse-p.ensures in
    let f = c.if-p-eq-BLANK.true in
    let a = c.anew.ensures in
    a.output ∙ ap (inks u) (by_blank (texts_ways r l b s q.what) p q e f)

pub returns-then-p-eq-STEP-clause-reader : goal.returns-then-p-eq-STEP-clause-reader
unfolding line_reader line_buffers line_list line_sheet line_texts
returns-then-p-eq-STEP-clause-reader c = let x = c.args in
    let r = x.r in
    let b = lent x.images.now x.records.now x.pool.now x.own.now x.settings.now in
    let l = x.list.now in
    let s = x.sheet.now in
    let u = page x.out.now 0 in
    let p = c.parse-p.result in
    let q = parsed r.said in
    let e = c.parse-p.ensures in
    let f = c.if-p-eq-STEP.true in
    let a = c.stepped.ensures in
    let t = c.timed-o.ensures in
    a.reader ∙ by_step (reader_ways r l) p q e f

pub returns-then-p-eq-STEP-clause-buffers : goal.returns-then-p-eq-STEP-clause-buffers
unfolding line_reader line_buffers line_list line_sheet line_texts
returns-then-p-eq-STEP-clause-buffers c = let x = c.args in
    let r = x.r in
    let b = lent x.images.now x.records.now x.pool.now x.own.now x.settings.now in
    let l = x.list.now in
    let s = x.sheet.now in
    let u = page x.out.now 0 in
    let p = c.parse-p.result in
    let q = parsed r.said in
    let e = c.parse-p.ensures in
    let f = c.if-p-eq-STEP.true in
    let a = c.stepped.ensures in
    let t = c.timed-o.ensures in
    a.buffers ∙ ap (λ (o : Order). left_of b (call_of o [])) t ∙ by_step (buffers_ways r l b) p q e f

pub returns-then-p-eq-STEP-clause-list : goal.returns-then-p-eq-STEP-clause-list
unfolding line_reader line_buffers line_list line_sheet line_texts
returns-then-p-eq-STEP-clause-list c = let x = c.args in
    let r = x.r in
    let b = lent x.images.now x.records.now x.pool.now x.own.now x.settings.now in
    let l = x.list.now in
    let s = x.sheet.now in
    let u = page x.out.now 0 in
    let p = c.parse-p.result in
    let q = parsed r.said in
    let e = c.parse-p.ensures in
    let f = c.if-p-eq-STEP.true in
    let a = c.stepped.ensures in
    let t = c.timed-o.ensures in
    by_step (list_ways r l) p q e f

pub returns-then-p-eq-STEP-clause-sheet : goal.returns-then-p-eq-STEP-clause-sheet
unfolding line_reader line_buffers line_list line_sheet line_texts
returns-then-p-eq-STEP-clause-sheet c = let x = c.args in
    let r = x.r in
    let b = lent x.images.now x.records.now x.pool.now x.own.now x.settings.now in
    let l = x.list.now in
    let s = x.sheet.now in
    let u = page x.out.now 0 in
    let p = c.parse-p.result in
    let q = parsed r.said in
    let e = c.parse-p.ensures in
    let f = c.if-p-eq-STEP.true in
    let a = c.stepped.ensures in
    let t = c.timed-o.ensures in
    a.sheet ∙ ap (λ (o : Order). step_sheet b o [] s) t ∙ by_step (sheet_ways r l b s) p q e f

pub returns-then-p-eq-STEP-clause-output : goal.returns-then-p-eq-STEP-clause-output
unfolding line_reader line_buffers line_list line_sheet line_texts
returns-then-p-eq-STEP-clause-output c = let x = c.args in
    let r = x.r in
    let b = lent x.images.now x.records.now x.pool.now x.own.now x.settings.now in
    let l = x.list.now in
    let s = x.sheet.now in
    let u = page x.out.now 0 in
    let p = c.parse-p.result in
    let q = parsed r.said in
    let e = c.parse-p.ensures in
    let f = c.if-p-eq-STEP.true in
    let a = c.stepped.ensures in
    let t = c.timed-o.ensures in
    a.output ∙ ap (λ (o : Order). inks u (echo_texts r ++ step_texts b o [])) t
    ∙ ap (inks u) (by_step (texts_ways r l b s q.what) p q e f)

pub returns-then-p-eq-CLOCK-clause-reader : goal.returns-then-p-eq-CLOCK-clause-reader
unfolding line_reader line_buffers line_list line_sheet line_texts
returns-then-p-eq-CLOCK-clause-reader c = let x = c.args in
    let r = x.r in
    let b = lent x.images.now x.records.now x.pool.now x.own.now x.settings.now in
    let l = x.list.now in
    let s = x.sheet.now in
    let u = page x.out.now 0 in
    let p = c.parse-p.result in
    let q = parsed r.said in
    let e = c.parse-p.ensures in
    let f = c.if-p-eq-CLOCK.true in
    let a = c.heard.ensures in
    a.reader ∙ ap (λ (y : Reader). next y r.going) c.kept-then.ensures ∙ by_clock (reader_ways r l) p q e f

pub returns-then-p-eq-CLOCK-clause-buffers : goal.returns-then-p-eq-CLOCK-clause-buffers
unfolding line_reader line_buffers line_list line_sheet line_texts
returns-then-p-eq-CLOCK-clause-buffers c = let x = c.args in
    let r = x.r in
    let b = lent x.images.now x.records.now x.pool.now x.own.now x.settings.now in
    let l = x.list.now in
    let s = x.sheet.now in
    let u = page x.out.now 0 in
    let p = c.parse-p.result in
    let q = parsed r.said in
    let e = c.parse-p.ensures in
    let f = c.if-p-eq-CLOCK.true in
    let a = c.heard.ensures in
    by_clock (buffers_ways r l b) p q e f

pub returns-then-p-eq-CLOCK-clause-list : goal.returns-then-p-eq-CLOCK-clause-list
unfolding line_reader line_buffers line_list line_sheet line_texts
returns-then-p-eq-CLOCK-clause-list c = let x = c.args in
    let r = x.r in
    let b = lent x.images.now x.records.now x.pool.now x.own.now x.settings.now in
    let l = x.list.now in
    let s = x.sheet.now in
    let u = page x.out.now 0 in
    let p = c.parse-p.result in
    let q = parsed r.said in
    let e = c.parse-p.ensures in
    let f = c.if-p-eq-CLOCK.true in
    let a = c.heard.ensures in
    by_clock (list_ways r l) p q e f

pub returns-then-p-eq-CLOCK-clause-sheet : goal.returns-then-p-eq-CLOCK-clause-sheet
unfolding line_reader line_buffers line_list line_sheet line_texts
returns-then-p-eq-CLOCK-clause-sheet c = let x = c.args in
    let r = x.r in
    let b = lent x.images.now x.records.now x.pool.now x.own.now x.settings.now in
    let l = x.list.now in
    let s = x.sheet.now in
    let u = page x.out.now 0 in
    let p = c.parse-p.result in
    let q = parsed r.said in
    let e = c.parse-p.ensures in
    let f = c.if-p-eq-CLOCK.true in
    let a = c.heard.ensures in
    by_clock (sheet_ways r l b s) p q e f

pub returns-then-p-eq-CLOCK-clause-output : goal.returns-then-p-eq-CLOCK-clause-output
unfolding line_reader line_buffers line_list line_sheet line_texts
returns-then-p-eq-CLOCK-clause-output c = let x = c.args in
    let r = x.r in
    let b = lent x.images.now x.records.now x.pool.now x.own.now x.settings.now in
    let l = x.list.now in
    let s = x.sheet.now in
    let u = page x.out.now 0 in
    let p = c.parse-p.result in
    let q = parsed r.said in
    let e = c.parse-p.ensures in
    let f = c.if-p-eq-CLOCK.true in
    let a = c.heard.ensures in
    a.output ∙ ap (inks u) (by_clock (texts_ways r l b s q.what) p q e f)

pub returns-then-p-eq-LIST-clause-reader : goal.returns-then-p-eq-LIST-clause-reader
unfolding line_reader line_buffers line_list line_sheet line_texts
returns-then-p-eq-LIST-clause-reader c = let x = c.args in
    let r = x.r in
    let b = lent x.images.now x.records.now x.pool.now x.own.now x.settings.now in
    let l = x.list.now in
    let s = x.sheet.now in
    let u = page x.out.now 0 in
    let p = c.parse-p.result in
    let q = parsed r.said in
    let e = c.parse-p.ensures in
    let f = c.if-p-eq-LIST.true in
    let a = c.listing.ensures in
    a.reader ∙ by_list (reader_ways r l) p q e f

pub returns-then-p-eq-LIST-clause-buffers : goal.returns-then-p-eq-LIST-clause-buffers
unfolding line_reader line_buffers line_list line_sheet line_texts
returns-then-p-eq-LIST-clause-buffers c = let x = c.args in
    let r = x.r in
    let b = lent x.images.now x.records.now x.pool.now x.own.now x.settings.now in
    let l = x.list.now in
    let s = x.sheet.now in
    let u = page x.out.now 0 in
    let p = c.parse-p.result in
    let q = parsed r.said in
    let e = c.parse-p.ensures in
    let f = c.if-p-eq-LIST.true in
    let a = c.listing.ensures in
    by_list (buffers_ways r l b) p q e f

pub returns-then-p-eq-LIST-clause-list : goal.returns-then-p-eq-LIST-clause-list
unfolding line_reader line_buffers line_list line_sheet line_texts
returns-then-p-eq-LIST-clause-list c = let x = c.args in
    let r = x.r in
    let b = lent x.images.now x.records.now x.pool.now x.own.now x.settings.now in
    let l = x.list.now in
    let s = x.sheet.now in
    let u = page x.out.now 0 in
    let p = c.parse-p.result in
    let q = parsed r.said in
    let e = c.parse-p.ensures in
    let f = c.if-p-eq-LIST.true in
    let a = c.listing.ensures in
    a.list ∙ by_list (list_ways r l) p q e f

pub returns-then-p-eq-LIST-clause-sheet : goal.returns-then-p-eq-LIST-clause-sheet
unfolding line_reader line_buffers line_list line_sheet line_texts
returns-then-p-eq-LIST-clause-sheet c = let x = c.args in
    let r = x.r in
    let b = lent x.images.now x.records.now x.pool.now x.own.now x.settings.now in
    let l = x.list.now in
    let s = x.sheet.now in
    let u = page x.out.now 0 in
    let p = c.parse-p.result in
    let q = parsed r.said in
    let e = c.parse-p.ensures in
    let f = c.if-p-eq-LIST.true in
    let a = c.listing.ensures in
    by_list (sheet_ways r l b s) p q e f

pub returns-then-p-eq-LIST-clause-output : goal.returns-then-p-eq-LIST-clause-output
unfolding line_reader line_buffers line_list line_sheet line_texts
returns-then-p-eq-LIST-clause-output c = let x = c.args in
    let r = x.r in
    let b = lent x.images.now x.records.now x.pool.now x.own.now x.settings.now in
    let l = x.list.now in
    let s = x.sheet.now in
    let u = page x.out.now 0 in
    let p = c.parse-p.result in
    let q = parsed r.said in
    let e = c.parse-p.ensures in
    let f = c.if-p-eq-LIST.true in
    let a = c.listing.ensures in
    a.output ∙ ap (inks u) (by_list (texts_ways r l b s q.what) p q e f)

pub returns-then-p-eq-LAID-clause-reader : goal.returns-then-p-eq-LAID-clause-reader
unfolding line_reader line_buffers line_list line_sheet line_texts
returns-then-p-eq-LAID-clause-reader c = let x = c.args in
    let r = x.r in
    let b = lent x.images.now x.records.now x.pool.now x.own.now x.settings.now in
    let l = x.list.now in
    let s = x.sheet.now in
    let u = page x.out.now 0 in
    let p = c.parse-p.result in
    let q = parsed r.said in
    let e = c.parse-p.ensures in
    let f = c.if-p-eq-LAID.true in
    let a = c.laid.ensures in
    let t = c.timed-o.ensures in
    a.reader ∙ ap (laid_reader r l) t ∙ by_laid (reader_ways r l) p q e f

pub returns-then-p-eq-LAID-clause-buffers : goal.returns-then-p-eq-LAID-clause-buffers
unfolding line_reader line_buffers line_list line_sheet line_texts
returns-then-p-eq-LAID-clause-buffers c = let x = c.args in
    let r = x.r in
    let b = lent x.images.now x.records.now x.pool.now x.own.now x.settings.now in
    let l = x.list.now in
    let s = x.sheet.now in
    let u = page x.out.now 0 in
    let p = c.parse-p.result in
    let q = parsed r.said in
    let e = c.parse-p.ensures in
    let f = c.if-p-eq-LAID.true in
    let a = c.laid.ensures in
    let t = c.timed-o.ensures in
    a.buffers ∙ ap (laid_buffers r l b) t ∙ by_laid (buffers_ways r l b) p q e f

pub returns-then-p-eq-LAID-clause-list : goal.returns-then-p-eq-LAID-clause-list
unfolding line_reader line_buffers line_list line_sheet line_texts
returns-then-p-eq-LAID-clause-list c = let x = c.args in
    let r = x.r in
    let b = lent x.images.now x.records.now x.pool.now x.own.now x.settings.now in
    let l = x.list.now in
    let s = x.sheet.now in
    let u = page x.out.now 0 in
    let p = c.parse-p.result in
    let q = parsed r.said in
    let e = c.parse-p.ensures in
    let f = c.if-p-eq-LAID.true in
    let a = c.laid.ensures in
    let t = c.timed-o.ensures in
    by_laid (list_ways r l) p q e f

pub returns-then-p-eq-LAID-clause-sheet : goal.returns-then-p-eq-LAID-clause-sheet
unfolding line_reader line_buffers line_list line_sheet line_texts
returns-then-p-eq-LAID-clause-sheet c = let x = c.args in
    let r = x.r in
    let b = lent x.images.now x.records.now x.pool.now x.own.now x.settings.now in
    let l = x.list.now in
    let s = x.sheet.now in
    let u = page x.out.now 0 in
    let p = c.parse-p.result in
    let q = parsed r.said in
    let e = c.parse-p.ensures in
    let f = c.if-p-eq-LAID.true in
    let a = c.laid.ensures in
    let t = c.timed-o.ensures in
    a.sheet ∙ ap (laid_sheet r l b s) t ∙ by_laid (sheet_ways r l b s) p q e f

pub returns-then-p-eq-LAID-clause-output : goal.returns-then-p-eq-LAID-clause-output
unfolding line_reader line_buffers line_list line_sheet line_texts
returns-then-p-eq-LAID-clause-output c = let x = c.args in
    let r = x.r in
    let b = lent x.images.now x.records.now x.pool.now x.own.now x.settings.now in
    let l = x.list.now in
    let s = x.sheet.now in
    let u = page x.out.now 0 in
    let p = c.parse-p.result in
    let q = parsed r.said in
    let e = c.parse-p.ensures in
    let f = c.if-p-eq-LAID.true in
    let a = c.laid.ensures in
    let t = c.timed-o.ensures in
    a.output ∙ ap (λ (o : Order). inks u (laid_texts r l b o)) t
    ∙ ap (inks u) (by_laid (texts_ways r l b s q.what) p q e f)

pub returns-clause-reader : goal.returns-clause-reader
unfolding line_reader line_buffers line_list line_sheet line_texts
returns-clause-reader c = let x = c.args in
    let r = x.r in
    let b = lent x.images.now x.records.now x.pool.now x.own.now x.settings.now in
    let l = x.list.now in
    let s = x.sheet.now in
    let u = page x.out.now 0 in
    let p = c.parse-p.result in
    let q = parsed r.said in
    let e = c.parse-p.ensures in
    let f = c.if-p-eq-BLANK.false in
    let g = c.if-p-eq-STEP.false in
    let h = c.if-p-eq-CLOCK.false in
    let i = c.if-p-eq-LIST.false in
    let j = c.if-p-eq-LAID.false in
    let a = c.passed.ensures in
    a.reader ∙ by_other (reader_ways r l) p q e f g h i j

pub returns-clause-buffers : goal.returns-clause-buffers
unfolding line_reader line_buffers line_list line_sheet line_texts
returns-clause-buffers c = let x = c.args in
    let r = x.r in
    let b = lent x.images.now x.records.now x.pool.now x.own.now x.settings.now in
    let l = x.list.now in
    let s = x.sheet.now in
    let u = page x.out.now 0 in
    let p = c.parse-p.result in
    let q = parsed r.said in
    let e = c.parse-p.ensures in
    let f = c.if-p-eq-BLANK.false in
    let g = c.if-p-eq-STEP.false in
    let h = c.if-p-eq-CLOCK.false in
    let i = c.if-p-eq-LIST.false in
    let j = c.if-p-eq-LAID.false in
    let a = c.passed.ensures in
    by_other (buffers_ways r l b) p q e f g h i j

pub returns-clause-list : goal.returns-clause-list
unfolding line_reader line_buffers line_list line_sheet line_texts
returns-clause-list c = let x = c.args in
    let r = x.r in
    let b = lent x.images.now x.records.now x.pool.now x.own.now x.settings.now in
    let l = x.list.now in
    let s = x.sheet.now in
    let u = page x.out.now 0 in
    let p = c.parse-p.result in
    let q = parsed r.said in
    let e = c.parse-p.ensures in
    let f = c.if-p-eq-BLANK.false in
    let g = c.if-p-eq-STEP.false in
    let h = c.if-p-eq-CLOCK.false in
    let i = c.if-p-eq-LIST.false in
    let j = c.if-p-eq-LAID.false in
    let a = c.passed.ensures in
    by_other (list_ways r l) p q e f g h i j

pub returns-clause-sheet : goal.returns-clause-sheet
unfolding line_reader line_buffers line_list line_sheet line_texts
returns-clause-sheet c = let x = c.args in
    let r = x.r in
    let b = lent x.images.now x.records.now x.pool.now x.own.now x.settings.now in
    let l = x.list.now in
    let s = x.sheet.now in
    let u = page x.out.now 0 in
    let p = c.parse-p.result in
    let q = parsed r.said in
    let e = c.parse-p.ensures in
    let f = c.if-p-eq-BLANK.false in
    let g = c.if-p-eq-STEP.false in
    let h = c.if-p-eq-CLOCK.false in
    let i = c.if-p-eq-LIST.false in
    let j = c.if-p-eq-LAID.false in
    let a = c.passed.ensures in
    by_other (sheet_ways r l b s) p q e f g h i j

pub returns-clause-output : goal.returns-clause-output
unfolding line_reader line_buffers line_list line_sheet line_texts
returns-clause-output c = let x = c.args in
    let r = x.r in
    let b = lent x.images.now x.records.now x.pool.now x.own.now x.settings.now in
    let l = x.list.now in
    let s = x.sheet.now in
    let u = page x.out.now 0 in
    let p = c.parse-p.result in
    let q = parsed r.said in
    let e = c.parse-p.ensures in
    let f = c.if-p-eq-BLANK.false in
    let g = c.if-p-eq-STEP.false in
    let h = c.if-p-eq-CLOCK.false in
    let i = c.if-p-eq-LIST.false in
    let j = c.if-p-eq-LAID.false in
    let a = c.passed.ensures in
    a.output ∙ ap (λ (v : Parsed). inks u (complaint_texts v.what r.line)) e
    ∙ ap (inks u) (by_other (texts_ways r l b s q.what) p q e f g h i j)
