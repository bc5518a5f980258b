-- `wire::verify::vote_counts`: by the word, then by the range of the rivals.
use borrow.Author.Tests.{ne_eqb, le-leb, lt-leb}
use native.Mathlib.Nat.{le_of_suc-le-suc}
use Rattle.wire.specs.Formed.{counts_ok}
use Rattle.wire.proofs.verify.vote_counts.Goals as goal

pub returns-in-0 : goal.returns-in-0
unfolding counts_ok
returns-in-0 c = simp (c.both.ensures, c.both-rest.ensures, c.in-0.is)

pub returns-in-0-to-12 : goal.returns-in-0-to-12
unfolding counts_ok
returns-in-0-to-12 c = simp (c.both-rest.ensures, c.in-1.is, le-leb _ 12 (le_of_suc-le-suc c.in-0-to-12.if-rivals-lt13-own.true))

pub returns-in_default-rivals : goal.returns-in_default-rivals
unfolding counts_ok
returns-in_default-rivals c = simp (c.in-1.is, lt-leb _ 12 c.in_default-rivals.if-rivals-lt13-own.false)

pub returns-in_default : goal.returns-in_default
unfolding counts_ok
returns-in_default c = simp (ne_eqb _ 0 c.in_default.in_default-own.rest.0.1, ne_eqb _ 1 c.in_default.in_default-own.rest.1)
