-- `classes::class_of`: a bound after the other.
use native.Mathlib.Omega.{arith}
use Rattle.classes.proofs.Laws.{class_seven}
use borrow.Author.Rules.{rules}
use Rattle.classes.proofs.class_of.Goals as goal

pub returns : goal.returns
returns c = let x = c.args in
    let a = c.reached.ensures in
    let b = c.reached-2.ensures in
    let d = c.reached-3.ensures in
    let e = c.reached-4.ensures in
    let f = c.reached-5.ensures in
    let g = c.reached-6.ensures in
    let h = c.reached-7.ensures in
    let k = class_seven x.row x.w (search rules) in
    (omega (arith, k, a.0, b.0, d.0, e.0, f.0, g.0, h.0), omega (arith, a.1, b.1, d.1, e.1, f.1, g.1, h.1))
