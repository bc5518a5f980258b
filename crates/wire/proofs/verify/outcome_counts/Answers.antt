-- `wire::verify::outcome_counts`: by the word, then by the range of the entries.
use borrow.Author.Tests.{ne_eqb, le-leb, lt-leb}
use native.Mathlib.Nat.{le_of_suc-le-suc}
use Rattle.numbers.specs.Sizes.{most_open}
use Rattle.wire.specs.Formed.{counts_ok}
use Rattle.wire.proofs.verify.outcome_counts.Goals as goal

pub returns-in-0 : goal.returns-in-0
unfolding counts_ok
returns-in-0 c = simp (c.both.ensures, c.both-rest.ensures, c.in-0.is)

pub returns-in-1-to-8 : goal.returns-in-1-to-8
unfolding counts_ok
returns-in-1-to-8 c = simp (
  c.both-rest.ensures,
  c.in-1.is,
  le-leb 1 _ c.in-1-to-8.if-entries-lt1-own.false,
  le-leb _ most_open (le_of_suc-le-suc c.in-1-to-8.if-entries-lt9-own.true),
)

pub returns-in_default-entries : goal.returns-in_default-entries
unfolding counts_ok
returns-in_default-entries c = simp (c.in-1.is, lt-leb 1 _ c.in_default-entries.if-entries-lt1-own.true)

pub returns-in_default-entries-2 : goal.returns-in_default-entries-2
unfolding counts_ok
returns-in_default-entries-2 c = simp
    (c.in-1.is, le-leb 1 _ c.in_default-entries.if-entries-lt1-own.false, lt-leb _ most_open c.in_default-entries.if-entries-lt9-own.false)

pub returns-in_default : goal.returns-in_default
unfolding counts_ok
returns-in_default c = simp (ne_eqb _ 0 c.in_default.in_default-own.rest.0.1, ne_eqb _ 1 c.in_default.in_default-own.rest.1)
