-- `script::distances_of`: none are given, or each is the number in its place.
use Rattle.std.proofs.Common.{ℕ, ap, sym, ◌∙◌, rules, tests}
use borrow.Author.Tests.{eq-eqb, ne_eqb}
use Rattle.script.specs.Parse.{arity, fill_from, distances_of}
use Rattle.script.proofs.Laws.{made_fill}
use Rattle.script.proofs.naming.distances_of.Goals as goal

pub returns-then-s-h : goal.returns-then-s-h
unfolding distances_of
returns-then-s-h c = let s = c.args.s in
    simp (eq-eqb s.count (arity s.word) (c.if-s-h.true ∙ c.arity.ensures.0))

pub returns : goal.returns
unfolding distances_of
returns c = let s = c.args.s in
    simp (ne_eqb s.count (arity s.word) (λ q. c.if-s-h.false (q ∙ sym c.arity.ensures.0)))
    (made_fill c.from_fn.result s.numbers c.arity.result (λ x y q e. search (rules, tests)) 13 c.from_fn.ensures.items
    ∙ ap (λ (h : ℕ). fill_from 13 h s.numbers) c.arity.ensures.0)
