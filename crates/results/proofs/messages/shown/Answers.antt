-- `results::messages::shown`: the message that is lent, or none.
use mathlib.Core.Path.{◌≡◌, sym, ap, ◌∙◌}
use native.Mathlib.Omega.{arith}
use Rattle.buffers.proofs.Waiting.{message_lent, inside}
use Rattle.results.proofs.Seen.{unseen, is_seen, there_is}
use mathlib.Core.List.{[], ◌∷◌, ◌++◌}
use Rattle.report.specs.Page.{page, inks, behind}
use Rattle.report.specs.Texts.{message_texts}
use Rattle.pool.specs.Pool.{message_at}
use Rattle.results.specs.Results.{newline}
use Rattle.results.specs.Told.{message_line}
use Rattle.results.proofs.Chain.{last, before}
use Rattle.results.proofs.messages.shown.Goals as goal

pub returns-then-not-there : goal.returns-then-not-there
unfolding message_line inks
returns-then-not-there c = let x = c.args in
    sym (ap (λ m. inks (page x.out.now x.at) (message_line x.label.now m)) (unseen x.pool.now x.k (sym c.there.ensures
    ∙ c.if-not-there.true)))

pub overflow_add-end : goal.overflow_add-end
overflow_add-end c = let x = c.args in
    let t = there_is x.pool.now x.k (sym c.there.ensures ∙ c.if-not-there.false) in
    let i = (inside x.pool.now x.k _ _ t.fine t.message c.place-start.ensures c.length.ensures).ends in
    omega arith

pub slice_bounds-message-end : goal.slice_bounds-message-end
slice_bounds-message-end c = let x = c.args in
    let t = there_is x.pool.now x.k (sym c.there.ensures ∙ c.if-not-there.false) in
    let i = inside x.pool.now x.k _ _ t.fine t.message c.place-start.ensures c.length.ensures in
    let l = i.long in
    let e = i.ends in
    omega arith

pub returns : goal.returns
unfolding message_line
returns c = let x = c.args in
    let P = x.pool.now in
    let m = message_at P x.k in
    let p = page x.out.now x.at in
    let a = c.text-a in
    let b = c.message-b in
    let d = c.text in
    let q = page a.new.out a.result in
    let r = page b.new.out b.result in
    let s = page d.new.out d.result in
    let e : r ≡ inks q (message_texts m) =
    b.ensures ∙ ap (λ y. inks q (message_texts y)) (message_lent P x.k _ _ c.place-start.ensures
    c.length.ensures) in
    before p q s x.label.now (message_texts m ++ (newline ∷ [])) a.ensures
    (behind q r s (message_texts m) (newline ∷ []) e (last r s newline d.ensures))
    ∙ sym (ap (λ y. inks p (message_line x.label.now y)) (is_seen P x.k (sym c.there.ensures
    ∙ c.if-not-there.false)))
