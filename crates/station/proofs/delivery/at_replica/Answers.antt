-- `station::delivery::at_replica`: blocked, refused, or the image changed and the answer added.
use mathlib.Core.Path.{◌≡◌, sym, ◌∙◌}
use mathlib.Core.Bool.{true, false}
use native.Mathlib.Omega.{arith}
use lib.ListN.{length, replicate}
use lib.Seq.{length-take-le}
use Rattle.numbers.specs.Sizes.{longest_message}
use Rattle.station.proofs.Delivering.{blocked_here, refused_here, taken_here, fits_here}
use borrow.Author.Rules.{rules}
use Rattle.station.proofs.delivery.at_replica.Goals as goal

pub returns-then-is_blocked-clause-by_index : goal.returns-then-is_blocked-clause-by_index
returns-then-is_blocked-clause-by_index c = let x = c.args in
    let I = x.images.now in
    let P = x.pool.now in
    let h = c.requires.1 in
    let b = sym c.is_blocked.ensures ∙ c.if-is_blocked.true in
    (λ R O. c.refused.ensures ∙ (blocked_here I R P O x.node x.k x.kept h b).0)

pub returns-then-is_blocked-clause-by_index_2 : goal.returns-then-is_blocked-clause-by_index_2
returns-then-is_blocked-clause-by_index_2 c = let x = c.args in
    let I = x.images.now in
    let P = x.pool.now in
    let h = c.requires.1 in
    let b = sym c.is_blocked.ensures ∙ c.if-is_blocked.true in (λ R O. (blocked_here I R P O x.node x.k x.kept h b).1.0)

pub returns-then-is_blocked-clause-by_index_3 : goal.returns-then-is_blocked-clause-by_index_3
returns-then-is_blocked-clause-by_index_3 c = let x = c.args in
    let I = x.images.now in
    let P = x.pool.now in
    let h = c.requires.1 in
    let b = sym c.is_blocked.ensures ∙ c.if-is_blocked.true in (λ R O. (blocked_here I R P O x.node x.k x.kept h b).1.1)

pub returns-then-d-ne0-clause-by_index : goal.returns-then-d-ne0-clause-by_index
returns-then-d-ne0-clause-by_index c = let x = c.args in
    let h = c.hand-d.ensures in
    let I = x.images.now in
    let P = x.pool.now in
    let l = c.requires.1 in
    let f = c.if-d-ne0.true in
    (λ R O. c.refused-then-d-ne0.ensures ∙ (refused_here I R P O x.node x.k x.kept l c.hand-d.result h.number f).0)

pub returns-then-d-ne0-clause-by_index_2 : goal.returns-then-d-ne0-clause-by_index_2
returns-then-d-ne0-clause-by_index_2 c = let x = c.args in
    let h = c.hand-d.ensures in
    let I = x.images.now in
    let P = x.pool.now in
    let l = c.requires.1 in
    let f = c.if-d-ne0.true in
    (λ R O. h.images ∙ (refused_here I R P O x.node x.k x.kept l c.hand-d.result h.number f).1.0)

pub returns-then-d-ne0-clause-by_index_3 : goal.returns-then-d-ne0-clause-by_index_3
returns-then-d-ne0-clause-by_index_3 c = let x = c.args in
    let h = c.hand-d.ensures in
    let I = x.images.now in
    let P = x.pool.now in
    let l = c.requires.1 in
    let f = c.if-d-ne0.true in
    (λ R O. (refused_here I R P O x.node x.k x.kept l c.hand-d.result h.number f).1.1)

pub slice_bounds-b-end : goal.slice_bounds-b-end
slice_bounds-b-end c = let x = c.args in
    let f = fits_here x.images.now x.images.now x.pool.now x.pool.now x.node x.k x.kept c.hand-d.result
    c.hand-d.ensures.number in
    let i = c.from-n.ensures in
    let g : length c.hand-d.new.answer ≡ longest_message = search rules in
    omega arith

pub slice_bounds-exchange-end : goal.slice_bounds-exchange-end
slice_bounds-exchange-end c = let x = c.args in
    let f = fits_here x.images.now x.images.now x.pool.now x.pool.now x.node x.k x.kept c.hand-d.result
    c.hand-d.ensures.number in
    let i = c.from-n.ensures in
    let g : length c.hand-d.new.answer ≡ longest_message = search rules in
    sym (length-take-le c.from-n.result c.hand-d.new.answer (omega arith))

pub returns-clause-by_index : goal.returns-clause-by_index
returns-clause-by_index c = let x = c.args in
    let h = c.hand-d.ensures in
    let I = x.images.now in
    let P = x.pool.now in
    let l = c.requires.1 in
    let p = c.requires.2 in
    let w = c.requires.3 in
    let f = c.if-d-ne0.false in
    let b = sym c.is_blocked.ensures ∙ c.if-is_blocked.false in
    let r = c.hand-d.result in
    let o = c.hand-d.new.answer in
    let j = c.from-n.ensures in
    (λ R O. c.refused-2.ensures ∙ (taken_here I R P O x.node x.k x.kept l p w r h.number f b (replicate longest_message 0) o h.buffer _ j).0)

pub returns-clause-by_index_2 : goal.returns-clause-by_index_2
returns-clause-by_index_2 c = let x = c.args in
    let h = c.hand-d.ensures in
    let I = x.images.now in
    let P = x.pool.now in
    let l = c.requires.1 in
    let p = c.requires.2 in
    let w = c.requires.3 in
    let f = c.if-d-ne0.false in
    let b = sym c.is_blocked.ensures ∙ c.if-is_blocked.false in
    let r = c.hand-d.result in
    let o = c.hand-d.new.answer in
    let j = c.from-n.ensures in
    (λ R O. h.images ∙ (taken_here I R P O x.node x.k x.kept l p w r h.number f b (replicate longest_message 0) o h.buffer _ j).1.0)

pub returns-clause-by_index_3 : goal.returns-clause-by_index_3
returns-clause-by_index_3 c = let x = c.args in
    let h = c.hand-d.ensures in
    let I = x.images.now in
    let P = x.pool.now in
    let l = c.requires.1 in
    let p = c.requires.2 in
    let w = c.requires.3 in
    let f = c.if-d-ne0.false in
    let b = sym c.is_blocked.ensures ∙ c.if-is_blocked.false in
    let r = c.hand-d.result in
    let o = c.hand-d.new.answer in
    let j = c.from-n.ensures in
    (λ R O. c.exchange.ensures ∙ (taken_here I R P O x.node x.k x.kept l p w r h.number f b (replicate longest_message 0) o
    h.buffer _ j).1.1)
