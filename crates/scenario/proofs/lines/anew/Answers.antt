-- `scenario::lines::anew`: refused, or the end of a scenario and a new one.
use mathlib.Core.Path.{refl, ap, ◌∙◌}
use mathlib.Core.Bool.{true}
use borrow.Author.Tests.{lt-ltb, le-ltb}
use Rattle.report.specs.Page.{page, inks, behind, page_length}
use Rattle.results.specs.Results.{refusal_texts}
use Rattle.reading.specs.declared.Reader.{Reader}
use Rattle.reading.specs.Reading.{next}
use Rattle.reading.specs.Notes.{echo_texts}
use Rattle.scenario.specs.Lines.{ended_texts, started_texts, anew_texts, anew_reader, anew_buffers, anew_sheet}
use Rattle.scenario.proofs.lines.anew.Goals as goal

pub returns-then-mask-gt-EVERY_NODE-clause-reader : goal.returns-then-mask-gt-EVERY_NODE-clause-reader
unfolding anew_reader anew_buffers anew_sheet anew_texts
returns-then-mask-gt-EVERY_NODE-clause-reader c = let x = c.args in
    let t = lt-ltb _ _ c.if-mask-gt-EVERY_NODE.true in
    let a = c.echo-a in
    let b = c.refusal-b in
    let p = page x.out.now 0 in
    simp t c.next-t.ensures

pub returns-then-mask-gt-EVERY_NODE-clause-buffers : goal.returns-then-mask-gt-EVERY_NODE-clause-buffers
unfolding anew_reader anew_buffers anew_sheet anew_texts
returns-then-mask-gt-EVERY_NODE-clause-buffers c = let x = c.args in
    let t = lt-ltb _ _ c.if-mask-gt-EVERY_NODE.true in
    let a = c.echo-a in
    let b = c.refusal-b in
    let p = page x.out.now 0 in
    simp t refl

pub returns-then-mask-gt-EVERY_NODE-clause-sheet : goal.returns-then-mask-gt-EVERY_NODE-clause-sheet
unfolding anew_reader anew_buffers anew_sheet anew_texts
returns-then-mask-gt-EVERY_NODE-clause-sheet c = let x = c.args in
    let t = lt-ltb _ _ c.if-mask-gt-EVERY_NODE.true in
    let a = c.echo-a in
    let b = c.refusal-b in
    let p = page x.out.now 0 in
    simp t refl

pub returns-then-mask-gt-EVERY_NODE-clause-output : goal.returns-then-mask-gt-EVERY_NODE-clause-output
unfolding anew_reader anew_buffers anew_sheet anew_texts
returns-then-mask-gt-EVERY_NODE-clause-output c = let x = c.args in
    let t = lt-ltb _ _ c.if-mask-gt-EVERY_NODE.true in
    let a = c.echo-a in
    let b = c.refusal-b in
    let p = page x.out.now 0 in
    simp t (behind p (page a.new.out a.result) (page b.new.out b.result) (echo_texts x.r) (refusal_texts 4) a.ensures b.ensures)

pub shape_of-images : goal.shape_of-images
shape_of-images c = c.images-1.given

pub shape_of-records : goal.shape_of-records
shape_of-records c = c.records-1.given

pub shape_of-pool : goal.shape_of-pool
shape_of-pool c = c.pool-1.given

pub shape_of-own : goal.shape_of-own
shape_of-own c = c.own-1.given

pub shape_of-settings : goal.shape_of-settings
shape_of-settings c = c.settings-1.given

pub shape_of-sheet : goal.shape_of-sheet
shape_of-sheet c = c.sheet-1.given

pub shape_of-out : goal.shape_of-out
shape_of-out c = let a = c.ended-x in
    let b = c.echo-y in
    let d = c.started-z in
    page_length _ _ _ _ _ d.ensures ∙ page_length _ _ _ _ _ b.ensures ∙ page_length _ _ _ _ _ a.ensures

pub returns-clause-reader : goal.returns-clause-reader
unfolding anew_reader anew_buffers anew_sheet anew_texts
returns-clause-reader c = let x = c.args in
    let t = le-ltb _ _ c.if-mask-gt-EVERY_NODE.false in
    let a = c.ended-x in
    let s = c.start-number in
    let b = c.echo-y in
    let d = c.started-z in
    let p = page x.out.now 0 in
    let q = page a.new.out a.result in
    let r = page b.new.out b.result in
    let u = page d.new.out d.result in
    simp t (c.next-t-2.ensures ∙ ap (λ (y : Reader). next y true) c.kept-then.ensures)

pub returns-clause-buffers : goal.returns-clause-buffers
unfolding anew_reader anew_buffers anew_sheet anew_texts
returns-clause-buffers c = let x = c.args in
    let t = le-ltb _ _ c.if-mask-gt-EVERY_NODE.false in
    let a = c.ended-x in
    let s = c.start-number in
    let b = c.echo-y in
    let d = c.started-z in
    let p = page x.out.now 0 in
    let q = page a.new.out a.result in
    let r = page b.new.out b.result in
    let u = page d.new.out d.result in
    simp t s.ensures.settings_after

pub returns-clause-sheet : goal.returns-clause-sheet
unfolding anew_reader anew_buffers anew_sheet anew_texts
returns-clause-sheet c = let x = c.args in
    let t = le-ltb _ _ c.if-mask-gt-EVERY_NODE.false in
    let a = c.ended-x in
    let s = c.start-number in
    let b = c.echo-y in
    let d = c.started-z in
    let p = page x.out.now 0 in
    let q = page a.new.out a.result in
    let r = page b.new.out b.result in
    let u = page d.new.out d.result in
    simp t c.blank.ensures.sheet

pub returns-clause-output : goal.returns-clause-output
unfolding anew_reader anew_buffers anew_sheet anew_texts
returns-clause-output c = let x = c.args in
    let t = le-ltb _ _ c.if-mask-gt-EVERY_NODE.false in
    let a = c.ended-x in
    let s = c.start-number in
    let b = c.echo-y in
    let d = c.started-z in
    let p = page x.out.now 0 in
    let q = page a.new.out a.result in
    let r = page b.new.out b.result in
    let u = page d.new.out d.result in
    simp t (behind p q u (ended_texts x.r.going x.images.now x.records.now x.settings.now x.sheet.now) _ a.ensures
    (behind q r u (echo_texts x.r) _ b.ensures (d.ensures ∙ ap (λ n. inks r (started_texts n)) s.ensures.value)))
