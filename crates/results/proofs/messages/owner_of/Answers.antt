-- `results::messages::owner_of`: the field of the message that is lent, or nobody.
use borrow.Author.Tests.{not-false}
use mathlib.Core.Path.{sym, ap, ◌∙◌}
use native.Mathlib.Omega.{arith}
use Rattle.buffers.proofs.Waiting.{message_lent, inside}
use Rattle.results.proofs.Seen.{unseen, is_seen, there_is}
use Rattle.results.specs.Told.{owner_seen}
use Rattle.wire.specs.Decode.{owner_of}
use Rattle.results.proofs.messages.owner_of.Goals as goal

pub returns-then-not-there : goal.returns-then-not-there
unfolding owner_seen
returns-then-not-there c = let x = c.args in
    sym (ap owner_seen (unseen x.pool.now x.k (sym c.there.ensures ∙ c.if-not-there.true)))

pub overflow_add-end : goal.overflow_add-end
overflow_add-end c = let x = c.args in
    let t = there_is x.pool.now x.k (sym c.there.ensures ∙ c.if-not-there.false) in
    let i = (inside x.pool.now x.k _ _ t.fine t.message c.place-start.ensures c.length.ensures).ends in
    omega arith

pub slice_bounds-owner-end : goal.slice_bounds-owner-end
slice_bounds-owner-end c = let x = c.args in
    let t = there_is x.pool.now x.k (sym c.there.ensures ∙ c.if-not-there.false) in
    let i = inside x.pool.now x.k _ _ t.fine t.message c.place-start.ensures c.length.ensures in
    let l = i.long in
    let e = i.ends in
    omega arith

pub returns : goal.returns
unfolding owner_seen
returns c = let x = c.args in
    c.owner.ensures
    ∙ ap owner_of (message_lent x.pool.now x.k _ _ c.place-start.ensures c.length.ensures)
    ∙ sym (ap owner_seen (is_seen x.pool.now x.k (sym c.there.ensures ∙ c.if-not-there.false)))
