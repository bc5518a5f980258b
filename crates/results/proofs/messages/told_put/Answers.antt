-- `results::messages::told_put`: the message that is lent, or none.
use borrow.Author.Tests.{not-false}
use mathlib.Core.Path.{sym, ap, ◌∙◌}
use native.Mathlib.Omega.{arith}
use Rattle.buffers.proofs.Waiting.{message_lent, inside}
use Rattle.results.proofs.Seen.{unseen, is_seen, there_is}
use Rattle.replay.specs.Sheet.{put_after}
use Rattle.results.specs.Told.{sheet_put}
use Rattle.results.proofs.messages.told_put.Goals as goal

pub returns-then-not-there : goal.returns-then-not-there
unfolding sheet_put
returns-then-not-there c = let x = c.args in
    sym (ap (sheet_put x.sheet.now) (unseen x.pool.now x.k (sym c.there.ensures ∙ c.if-not-there.true)))

pub overflow_add-end : goal.overflow_add-end
overflow_add-end c = let x = c.args in
    let t = there_is x.pool.now x.k (sym c.there.ensures ∙ c.if-not-there.false) in
    let i = (inside x.pool.now x.k _ _ t.fine t.message c.place-start.ensures c.length.ensures).ends in
    omega arith

pub slice_bounds-put-end : goal.slice_bounds-put-end
slice_bounds-put-end c = let x = c.args in
    let t = there_is x.pool.now x.k (sym c.there.ensures ∙ c.if-not-there.false) in
    let i = inside x.pool.now x.k _ _ t.fine t.message c.place-start.ensures c.length.ensures in
    let l = i.long in
    let e = i.ends in
    omega arith

pub returns : goal.returns
unfolding sheet_put
returns c = let x = c.args in
    c.put.ensures.sheet
    ∙ ap (put_after x.sheet.now) (message_lent x.pool.now x.k _ _ c.place-start.ensures
    c.length.ensures)
    ∙ sym (ap (sheet_put x.sheet.now) (is_seen x.pool.now x.k (sym c.there.ensures ∙ c.if-not-there.false)))
