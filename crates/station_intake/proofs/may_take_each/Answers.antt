-- `station_intake::may_take_each`: no part that was passed is refused, and the first that is refuses all.
use mathlib.Core.Path.{◌≡◌, refl, sym, ap, ◌∙◌}
use borrow.Author.Rules.{rules}
use native.Mathlib.Omega.{arith}
use native.Mathlib.Numerals.{add-one}
use borrow.Author.Tests.{eq-eqb}
use Rattle.numbers.specs.Sizes.{nodes}
use Rattle.numbers.specs.Outcome.{code_of, number_of}
use Rattle.numbers.proofs.Outcome.{code_counts}
use Rattle.station_intake.specs.Pass.{first_number}
use Rattle.station_intake.specs.Pass.{number_of as part_number}
use Rattle.station_intake.proofs.Taken.{part_ends, lent_part, refused_first}
use Rattle.station_intake.proofs.may_take_each.Goals as goal

pub loop-node-init : goal.loop-node-init
unfolding first_number
loop-node-init c = refl

pub overflow_mul-start : goal.overflow_mul-start
overflow_mul-start c = let l = c.loop-node in
    let q = part_ends c.args.size l.node nodes c.loop-node-test.true in
    omega arith

pub overflow_add-end : goal.overflow_add-end
overflow_add-end c = let l = c.loop-node in
    let q = part_ends c.args.size l.node nodes c.loop-node-test.true in
    omega arith

pub slice_bounds-may_take_in-end : goal.slice_bounds-may_take_in-end
slice_bounds-may_take_in-end c = let l = c.loop-node in
    let q = part_ends c.args.size l.node nodes c.loop-node-test.true in
    omega arith

pub returns-in_err-may_take_in : goal.returns-in_err-may_take_in
returns-in_err-may_take_in c = let l = c.loop-node in
    let x = c.args in
    let r = c.in_err-may_take_in.field-0.0 in
    let one = c.in_err-may_take_in.ensures ∙ ap part_number (lent_part x.size l.node x.old.now) in
    let same : number_of c.from_residual.result ≡ code_of r = search rules in
    same ∙ refused_first x.size x.old.now l.node c.loop-node-test.true l.invariant _ one (code_counts r)

pub loop-node-preserved : goal.loop-node-preserved
unfolding first_number
loop-node-preserved c = let l = c.loop-node in
    let x = c.args in
    let old = x.old.now in
    let one = c.in_ok-may_take_in.ensures ∙ ap part_number (lent_part x.size l.node old) in
    ap (first_number x.size old) (add-one l.node) ∙ simp (eq-eqb (first_number x.size old l.node) 0 l.invariant) (sym one)

pub returns : goal.returns
returns c = let l = c.loop-node in
    let x = c.args in
    let e : l.node ≡ nodes = let t = c.loop-node-test.false in omega arith in
    sym (sym (ap (first_number x.size x.old.now) e) ∙ l.invariant)
