-- `scenario::lines::take`: a newline ends the line.
use mathlib.Core.Path.{refl}
use borrow.Author.Tests.{eq-eqb, ne_eqb}
use Rattle.report.specs.Page.{inks}
use Rattle.scenario.specs.Lines.{reader_after, buffers_after, list_after, sheet_after, texts_after}
use Rattle.scenario.proofs.lines.take.Goals as goal

pub returns-then-b-eq-NEWLINE-clause-reader : goal.returns-then-b-eq-NEWLINE-clause-reader
unfolding reader_after buffers_after list_after sheet_after texts_after
returns-then-b-eq-NEWLINE-clause-reader c = let t = eq-eqb _ _ c.if-b-eq-NEWLINE.true in
    let e = c.line.ensures in simp t e.reader

pub returns-then-b-eq-NEWLINE-clause-buffers : goal.returns-then-b-eq-NEWLINE-clause-buffers
unfolding reader_after buffers_after list_after sheet_after texts_after
returns-then-b-eq-NEWLINE-clause-buffers c = let t = eq-eqb _ _ c.if-b-eq-NEWLINE.true in
    let e = c.line.ensures in simp t e.buffers

pub returns-then-b-eq-NEWLINE-clause-list : goal.returns-then-b-eq-NEWLINE-clause-list
unfolding reader_after buffers_after list_after sheet_after texts_after
returns-then-b-eq-NEWLINE-clause-list c = let t = eq-eqb _ _ c.if-b-eq-NEWLINE.true in
    let e = c.line.ensures in simp t e.list

pub returns-then-b-eq-NEWLINE-clause-sheet : goal.returns-then-b-eq-NEWLINE-clause-sheet
unfolding reader_after buffers_after list_after sheet_after texts_after
returns-then-b-eq-NEWLINE-clause-sheet c = let t = eq-eqb _ _ c.if-b-eq-NEWLINE.true in
    let e = c.line.ensures in simp t e.sheet

pub returns-then-b-eq-NEWLINE-clause-output : goal.returns-then-b-eq-NEWLINE-clause-output
unfolding reader_after buffers_after list_after sheet_after texts_after
returns-then-b-eq-NEWLINE-clause-output c = let t = eq-eqb _ _ c.if-b-eq-NEWLINE.true in
    let e = c.line.ensures in simp t e.output

pub returns-clause-reader : goal.returns-clause-reader
unfolding reader_after buffers_after list_after sheet_after texts_after inks
returns-clause-reader c = let t = ne_eqb _ _ c.if-b-eq-NEWLINE.false in simp t c.noted-t.ensures

pub returns-clause-buffers : goal.returns-clause-buffers
unfolding reader_after buffers_after list_after sheet_after texts_after inks
returns-clause-buffers c = let t = ne_eqb _ _ c.if-b-eq-NEWLINE.false in simp t refl

pub returns-clause-list : goal.returns-clause-list
unfolding reader_after buffers_after list_after sheet_after texts_after inks
returns-clause-list c = let t = ne_eqb _ _ c.if-b-eq-NEWLINE.false in simp t refl

pub returns-clause-sheet : goal.returns-clause-sheet
unfolding reader_after buffers_after list_after sheet_after texts_after inks
returns-clause-sheet c = let t = ne_eqb _ _ c.if-b-eq-NEWLINE.false in simp t refl

pub returns-clause-output : goal.returns-clause-output
unfolding reader_after buffers_after list_after sheet_after texts_after inks
returns-clause-output c = let t = ne_eqb _ _ c.if-b-eq-NEWLINE.false in simp t refl
