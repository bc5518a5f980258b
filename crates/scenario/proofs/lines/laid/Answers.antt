-- `scenario::lines::laid`: what is laid, or a bad line.
use mathlib.Core.Path.{◌≡◌, refl, sym, ap, ◌∙◌}
use mathlib.Core.Bool.{true, false, cond}
use mathlib.Core.List.{List, [], ◌++◌}
use Prim.Native.Nat.{ℕ}
use lib.ListN.{take}
use borrow.Author.Tests.{not-true, not-false}
use lib.Seq.{length-take-le}
use Rattle.report.specs.Page.{page, inks}
use Rattle.service_calls.specs.Lent.{lent}
use Rattle.runs.specs.Order.{call_of}
use Rattle.runs.specs.Left.{left_of}
use Rattle.reading.specs.declared.Reader.{Reader}
use Rattle.reading.specs.Reading.{next}
use Rattle.performing.specs.Steps.{step_texts, step_sheet}
use Rattle.lists.specs.declared.Shape.{Shape}
use Rattle.reading.specs.Notes.{echo_texts}
use Rattle.scenario.specs.Lines.{shape_of, is_laid, laid_of, laid_reader, laid_buffers, laid_sheet, laid_texts}
use Rattle.scenario.proofs.lines.laid.Goals as goal

pub returns-then-not-done-clause-reader : goal.returns-then-not-done-clause-reader
unfolding is_laid laid_reader laid_buffers laid_sheet laid_texts
returns-then-not-done-clause-reader c = let x = c.args in
    let p = c.passed.ensures in
    let none : is_laid x.r (shape_of x.o.kind) x.list.now ≡ false =
    ap (λ (z : Shape). is_laid x.r z x.list.now) (sym c.shape_of-shape.ensures)
    ∙ sym c.lay-done.ensures.fits ∙ not-true _ c.if-not-done.true in simp none p.reader

pub returns-then-not-done-clause-buffers : goal.returns-then-not-done-clause-buffers
unfolding is_laid laid_reader laid_buffers laid_sheet laid_texts
returns-then-not-done-clause-buffers c = let x = c.args in
    let p = c.passed.ensures in
    let none : is_laid x.r (shape_of x.o.kind) x.list.now ≡ false =
    ap (λ (z : Shape). is_laid x.r z x.list.now) (sym c.shape_of-shape.ensures)
    ∙ sym c.lay-done.ensures.fits ∙ not-true _ c.if-not-done.true in simp none refl

pub returns-then-not-done-clause-sheet : goal.returns-then-not-done-clause-sheet
unfolding is_laid laid_reader laid_buffers laid_sheet laid_texts
returns-then-not-done-clause-sheet c = let x = c.args in
    let p = c.passed.ensures in
    let none : is_laid x.r (shape_of x.o.kind) x.list.now ≡ false =
    ap (λ (z : Shape). is_laid x.r z x.list.now) (sym c.shape_of-shape.ensures)
    ∙ sym c.lay-done.ensures.fits ∙ not-true _ c.if-not-done.true in simp none refl

pub returns-then-not-done-clause-output : goal.returns-then-not-done-clause-output
unfolding is_laid laid_reader laid_buffers laid_sheet laid_texts
returns-then-not-done-clause-output c = let x = c.args in
    let p = c.passed.ensures in
    let none : is_laid x.r (shape_of x.o.kind) x.list.now ≡ false =
    ap (λ (z : Shape). is_laid x.r z x.list.now) (sym c.shape_of-shape.ensures)
    ∙ sym c.lay-done.ensures.fits ∙ not-true _ c.if-not-done.true in simp none p.output

pub slice_bounds-stepped-end : goal.slice_bounds-stepped-end
slice_bounds-stepped-end c = let l = c.lay-done in
    sym (length-take-le l.result.long l.new.out l.ensures.long)

pub returns-clause-reader : goal.returns-clause-reader
unfolding is_laid laid_of laid_reader laid_buffers laid_sheet laid_texts
returns-clause-reader c = let x = c.args in
    let b = lent x.images.now x.records.now x.pool.now x.own.now x.settings.now in
    let o = page x.out.now 0 in
    let l = c.lay-done in
    let s = c.stepped.ensures in
    let z = shape_of x.o.kind in
    let e = c.shape_of-shape.ensures in
    let some : is_laid x.r z x.list.now ≡ true =
    ap (λ (y : Shape). is_laid x.r y x.list.now) (sym e) ∙ sym l.ensures.fits ∙ not-false _ c.if-not-done.false in
    let bytes : take l.result.long l.new.out ≡ laid_of x.r z x.list.now =
    l.ensures.bytes ∙ ap (λ (y : Shape). cond (is_laid x.r y x.list.now) (laid_of x.r y x.list.now) []) e ∙ simp some in
    simp some (s.reader ∙ ap (λ (y : Reader). next y true) c.kept-then.ensures)

pub returns-clause-buffers : goal.returns-clause-buffers
unfolding is_laid laid_of laid_reader laid_buffers laid_sheet laid_texts
returns-clause-buffers c = let x = c.args in
    let b = lent x.images.now x.records.now x.pool.now x.own.now x.settings.now in
    let o = page x.out.now 0 in
    let l = c.lay-done in
    let s = c.stepped.ensures in
    let z = shape_of x.o.kind in
    let e = c.shape_of-shape.ensures in
    let some : is_laid x.r z x.list.now ≡ true =
    ap (λ (y : Shape). is_laid x.r y x.list.now) (sym e) ∙ sym l.ensures.fits ∙ not-false _ c.if-not-done.false in
    let bytes : take l.result.long l.new.out ≡ laid_of x.r z x.list.now =
    l.ensures.bytes ∙ ap (λ (y : Shape). cond (is_laid x.r y x.list.now) (laid_of x.r y x.list.now) []) e ∙ simp some in
    simp some (s.buffers ∙ ap (λ (t : List ℕ). left_of b (call_of x.o t)) bytes)

pub returns-clause-sheet : goal.returns-clause-sheet
unfolding is_laid laid_of laid_reader laid_buffers laid_sheet laid_texts
returns-clause-sheet c = let x = c.args in
    let b = lent x.images.now x.records.now x.pool.now x.own.now x.settings.now in
    let o = page x.out.now 0 in
    let l = c.lay-done in
    let s = c.stepped.ensures in
    let z = shape_of x.o.kind in
    let e = c.shape_of-shape.ensures in
    let some : is_laid x.r z x.list.now ≡ true =
    ap (λ (y : Shape). is_laid x.r y x.list.now) (sym e) ∙ sym l.ensures.fits ∙ not-false _ c.if-not-done.false in
    let bytes : take l.result.long l.new.out ≡ laid_of x.r z x.list.now =
    l.ensures.bytes ∙ ap (λ (y : Shape). cond (is_laid x.r y x.list.now) (laid_of x.r y x.list.now) []) e ∙ simp some in
    simp some (s.sheet ∙ ap (λ (t : List ℕ). step_sheet b x.o t x.sheet.now) bytes)

pub returns-clause-output : goal.returns-clause-output
unfolding is_laid laid_of laid_reader laid_buffers laid_sheet laid_texts
returns-clause-output c = let x = c.args in
    let b = lent x.images.now x.records.now x.pool.now x.own.now x.settings.now in
    let o = page x.out.now 0 in
    let l = c.lay-done in
    let s = c.stepped.ensures in
    let z = shape_of x.o.kind in
    let e = c.shape_of-shape.ensures in
    let some : is_laid x.r z x.list.now ≡ true =
    ap (λ (y : Shape). is_laid x.r y x.list.now) (sym e) ∙ sym l.ensures.fits ∙ not-false _ c.if-not-done.false in
    let bytes : take l.result.long l.new.out ≡ laid_of x.r z x.list.now =
    l.ensures.bytes ∙ ap (λ (y : Shape). cond (is_laid x.r y x.list.now) (laid_of x.r y x.list.now) []) e ∙ simp some in
    simp some (s.output ∙ ap (λ (t : List ℕ). inks o (echo_texts x.r ++ step_texts b x.o t)) bytes)
