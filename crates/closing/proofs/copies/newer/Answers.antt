-- `closing::copies::newer`: each way through the tests computes the definition.
use borrow.Author.Tests.{lt-ltb, le-ltb, eq-eqb, ne_eqb}
use Rattle.closing.specs.Copies.{with_nodes, newer_of}
use Rattle.closing.proofs.copies.newer.Goals as goal

pub returns-then-a-b : goal.returns-then-a-b
unfolding newer_of
returns-then-a-b c = simp (lt-ltb _ _ c.if-a-b.true)

pub returns-then-b-a : goal.returns-then-b-a
unfolding newer_of
returns-then-b-a c = let x = c.args in
    simp (le-ltb _ _ c.if-a-b.false, eq-eqb _ _ c.if-b-a.true)
    (λ i. with_nodes x.a (c.join.ensures i))

pub returns : goal.returns
unfolding newer_of
returns c = simp (le-ltb _ _ c.if-a-b.false, ne_eqb _ _ c.if-b-a.false)
