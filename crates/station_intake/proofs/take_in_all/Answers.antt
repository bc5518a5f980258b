-- `station_intake::take_in_all`: the lengths, then the thirteen parts judged, then taken in.
use mathlib.Core.Path.{◌≡◌, sym, ◌∙◌}
use borrow.Author.Rules.{rules}
use native.Mathlib.Omega.{arith}
use Rattle.numbers.specs.Outcome.{code_of, number_of}
use Rattle.numbers.proofs.Outcome.{code_counts}
use Rattle.station_intake.proofs.Called.{refused, wrong_length_lem, parted, long, judged, all_taken_lem}
use Rattle.station_intake.proofs.take_in_all.Goals as goal

pub returns-then-either-clause-number : goal.returns-then-either-clause-number
returns-then-either-clause-number c = let x = c.args in (refused x.old.now x.images.now 1 (λ z. omega arith)
    (wrong_length_lem x.old.now x.images.now (sym c.either.ensures ∙ c.if-either.true))).0

pub returns-then-either-clause-images : goal.returns-then-either-clause-images
returns-then-either-clause-images c = let x = c.args in (refused x.old.now x.images.now 1 (λ z. omega arith)
    (wrong_length_lem x.old.now x.images.now (sym c.either.ensures ∙ c.if-either.true))).1

pub may_take_each-requires : goal.may_take_each-requires
may_take_each-requires c = let x = c.args in
    parted x.old.now x.images.now (sym c.either.ensures ∙ c.if-either.false)

pub returns-in_err-may_take_each-clause-number : goal.returns-in_err-may_take_each-clause-number
returns-in_err-may_take_each-clause-number c = let x = c.args in
    let r = c.in_err-may_take_each.field-0.0 in
    let same : number_of c.from_residual.result ≡ code_of r = search rules in
    same ∙ (refused x.old.now x.images.now _ (code_counts r)
    (c.in_err-may_take_each.ensures ∙ judged x.old.now x.images.now (sym c.either.ensures ∙ c.if-either.false))).0

pub returns-in_err-may_take_each-clause-images : goal.returns-in_err-may_take_each-clause-images
returns-in_err-may_take_each-clause-images c = let x = c.args in
    let r = c.in_err-may_take_each.field-0.0 in (refused x.old.now x.images.now _ (code_counts r)
    (c.in_err-may_take_each.ensures ∙ judged x.old.now x.images.now (sym c.either.ensures ∙ c.if-either.false))).1

pub take_each-requires : goal.take_each-requires
take_each-requires c = let x = c.args in
    let fit = sym c.either.ensures ∙ c.if-either.false in
    (parted x.old.now x.images.now fit, long x.old.now x.images.now fit)

pub returns-clause-number : goal.returns-clause-number
returns-clause-number c = let x = c.args in
    let fit = sym c.either.ensures ∙ c.if-either.false in
    c.in_ok-may_take_each.ensures ∙ judged x.old.now x.images.now fit

pub returns-clause-images : goal.returns-clause-images
returns-clause-images c = let x = c.args in
    let fit = sym c.either.ensures ∙ c.if-either.false in
    c.take_each.ensures ∙ all_taken_lem x.old.now x.images.now fit (sym c.in_ok-may_take_each.ensures)
