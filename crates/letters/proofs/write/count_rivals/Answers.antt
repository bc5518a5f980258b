-- `letters::write::count_rivals`: the serials that are not 0 are the rivals.
use mathlib.Core.Path.{◌≡◌, ap, ◌∙◌}
use mathlib.Core.Bool.{not}
use native.Mathlib.Omega.{arith}
use borrow.Author.Rules.{rules}
use lib.Dec.{eqb}
use lib.ListN.{length, get_or, drop_of_length-le}
use Rattle.std.specs.List.{count_by}
use Rattle.numbers.specs.Sizes.{nodes}
use Rattle.letters.proofs.ByOwner.{one_bit, count_next, rivals_count}
use Rattle.letters.proofs.write.count_rivals.Goals as goal

pub loop-serial-preserved : goal.loop-serial-preserved
loop-serial-preserved c =
    let l = c.loop-serial in
    let ss = c.args.serials in
    let full : length ss ≡ nodes = search rules in
    let bit = one_bit (not (eqb (get_or ss l.serial-index 0) 0)) in
    let next = count_next l.serial-index ss (omega arith) in
    (omega (arith, c.from-n.ensures, bit.0, bit.1), omega (arith, c.from-n.ensures, bit.0, next, l.invariant.1))

pub returns-clause-value : goal.returns-clause-value
returns-clause-value c =
    let l = c.loop-serial in
    let ss = c.args.serials in
    let full : length ss ≡ nodes = search rules in
    let none = ap (count_by (λ s. not (eqb s 0))) (drop_of_length-le ss {i = l.serial-index} (omega arith)) in
    let counted : l.n ≡ count_by (λ s. not (eqb s 0)) ss = omega (arith, none, l.invariant.1) in
    counted ∙ rivals_count 0 ss
