-- `results::messages::conclude`: refused, or the message that was put.
use mathlib.Core.Path.{◌≡◌, sym, ap, ◌∙◌}
use Rattle.report.specs.Page.{page, inks}
use Rattle.pool.specs.Pool.{count}
use Rattle.results.specs.Told.{message_line, puts_text, sheet_put, sheet_told, taken_out, put_place, put_by}
use Rattle.results.proofs.Taken.{put_taken, put_refused, sheet_taken, sheet_refused}
use Rattle.results.proofs.messages.conclude.Goals as goal

pub returns-then-a-ne0-clause-sheet : goal.returns-then-a-ne0-clause-sheet
unfolding message_line inks
returns-then-a-ne0-clause-sheet c = let x = c.args in
    let P = x.pool.now in
    sym (sheet_refused x.o x.a x.owner (put_by x.o x.a x.before P) x.sheet.now c.if-a-ne0.true)

pub returns-then-a-ne0-clause-output : goal.returns-then-a-ne0-clause-output
unfolding message_line inks
returns-then-a-ne0-clause-output c = let x = c.args in
    let P = x.pool.now in
    sym (ap (λ m. inks (page x.out.now x.at) (message_line puts_text m)) (put_refused x.o x.a x.before P c.if-a-ne0.true))

pub returns-clause-sheet : goal.returns-clause-sheet
returns-clause-sheet c = let x = c.args in
    let P = x.pool.now in
    let z = c.if-a-ne0.false in
    let k : c.put_place-k.result ≡ put_place x.before (taken_out x.o.kind x.o.flag) (count P) =
    c.put_place-k.ensures ∙ (λ i. put_place x.before (c.taken_out.ensures i)
    (c.count.ensures i)) in
    let m = put_taken x.o x.a x.before c.put_place-k.result P z k in
    c.told.ensures
    ∙ ap (λ l. sheet_told x.o.kind l x.o x.a.answer x.owner) (c.told_put.ensures ∙ ap
    (sheet_put x.sheet.now) m)
    ∙ sheet_taken x.o x.a x.owner (put_by x.o x.a x.before P) x.sheet.now z

pub returns-clause-output : goal.returns-clause-output
returns-clause-output c = let x = c.args in
    let P = x.pool.now in
    let z = c.if-a-ne0.false in
    let k : c.put_place-k.result ≡ put_place x.before (taken_out x.o.kind x.o.flag) (count P) =
    c.put_place-k.ensures ∙ (λ i. put_place x.before (c.taken_out.ensures i)
    (c.count.ensures i)) in
    let m = put_taken x.o x.a x.before c.put_place-k.result P z k in
    c.shown.ensures ∙ ap (λ y. inks (page x.out.now x.at) (message_line puts_text y)) m
