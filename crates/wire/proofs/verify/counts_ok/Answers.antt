-- `wire::verify::counts_ok`: by the kind, then by the range of the count that varies.
use borrow.Author.Tests.{ne_eqb, le-leb, lt-leb}
use native.Mathlib.Nat.{le_of_suc-le-suc}
use Rattle.numbers.specs.Sizes.{most_open}
use Rattle.wire.specs.Formed.{counts_ok}
use Rattle.wire.proofs.verify.counts_ok.Goals as goal

pub returns-in-1-to-8 : goal.returns-in-1-to-8
unfolding counts_ok
returns-in-1-to-8 c = simp (
  c.both.ensures,
  c.in-3.is,
  le-leb 1 _ c.in-1-to-8.if-entries-lt1-own.false,
  le-leb _ most_open (le_of_suc-le-suc c.in-1-to-8.if-entries-lt9-own.true),
)

pub returns-in_default-entries : goal.returns-in_default-entries
unfolding counts_ok
returns-in_default-entries c = simp (c.in-3.is, lt-leb 1 _ c.in_default-entries.if-entries-lt1-own.true)

pub returns-in_default-entries-3 : goal.returns-in_default-entries-3
unfolding counts_ok
returns-in_default-entries-3 c = simp
    (c.in-3.is, le-leb 1 _ c.in_default-entries.if-entries-lt1-own.false, lt-leb _ most_open c.in_default-entries.if-entries-lt9-own.false)

pub returns-in-6 : goal.returns-in-6
unfolding counts_ok
returns-in-6 c = simp (c.both-in-6-2.ensures, c.both-in-6.ensures, c.in-6.is)

pub returns-in-1-rivals : goal.returns-in-1-rivals
unfolding counts_ok
returns-in-1-rivals c = simp (c.both-in-1-rivals.ensures, c.in-1-rivals.is, c.in-7.is)

pub returns-in_default-rivals : goal.returns-in_default-rivals
unfolding counts_ok
returns-in_default-rivals c = simp (c.in-7.is, ne_eqb _ 1 c.in_default-rivals.in_default-rivals-own.rest.1)

pub returns-in-1-entries : goal.returns-in-1-entries
unfolding counts_ok
returns-in-1-entries c = simp (
  c.both-in-1-entries.ensures,
  c.in-1-entries.is,
  le-leb 1 _ c.in-1.if-kind-lt1-own.false,
  le-leb _ 2 (le_of_suc-le-suc c.in-1.if-kind-lt3-own.true),
)

pub returns-in_default-entries-2 : goal.returns-in_default-entries-2
unfolding counts_ok
returns-in_default-entries-2 c = simp (
  ne_eqb _ 1 c.in_default-entries-2.in_default-entries-2-own.rest.1,
  le-leb 1 _ c.in-1.if-kind-lt1-own.false,
  le-leb _ 2
      (le_of_suc-le-suc c.in-1.if-kind-lt3-own.true),
)

pub returns-in_default : goal.returns-in_default
unfolding counts_ok
returns-in_default c = let ne = c.in_default.in_default-own.rest in
    simp (
      lt-leb 1 _ c.in_default.if-kind-lt1-own.true,
      ne_eqb _ 3 ne.0.0.0.0.1,
      ne_eqb _ 4 ne.0.0.0.1,
      ne_eqb _ 5
          ne.0.0.1,
      ne_eqb _ 6 ne.0.1,
      ne_eqb _ 7 ne.1,
    )

pub returns-in_default-2 : goal.returns-in_default-2
unfolding counts_ok
returns-in_default-2 c = let ne = c.in_default.in_default-own.rest in
    simp (
      lt-leb _ 2 c.in_default.if-kind-lt3-own.false,
      le-leb 1 _ c.in_default.if-kind-lt1-own.false,
      ne_eqb _ 3 ne.0.0.0.0.1,
      ne_eqb _ 4
          ne.0.0.0.1,
      ne_eqb _ 5 ne.0.0.1,
      ne_eqb _ 6 ne.0.1,
      ne_eqb _ 7 ne.1,
    )
