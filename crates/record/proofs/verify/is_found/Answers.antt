-- `record::verify::is_found`: by whether a copy came.
use native.Mathlib.Omega.{arith}
use borrow.Author.Tests.{eq-eqb, ne_eqb}
use Rattle.octets.specs.Octets.{get}
use Rattle.record.specs.Record.{object_of}
use Rattle.record.specs.Valid.{found_in}
use Rattle.record.proofs.verify.is_found.Goals as goal

pub returns-then-get_u16-eq0 : goal.returns-then-get_u16-eq0
unfolding found_in object_of
returns-then-get_u16-eq0 c = let l = c.args.x.now in
    simp (eq-eqb (get 2 l 2) 0 (omega arith)) (cc)

pub returns-else-get_u16-eq0 : goal.returns-else-get_u16-eq0
unfolding found_in object_of
returns-else-get_u16-eq0 c = let l = c.args.x.now in
    simp (ne_eqb (get 2 l 2) 0 (λ e. omega arith))
