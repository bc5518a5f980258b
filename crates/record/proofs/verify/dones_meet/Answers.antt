-- `record::verify::dones_meet`: while finishing one is missing, else there are none.
use native.Mathlib.Omega.{arith}
use borrow.Author.Tests.{eq-eqb, ne_eqb}
use lib.ListN.{get_or}
use Rattle.clauses.specs.Clauses.{dones_meet}
use Rattle.record.specs.Record.{record_of}
use Rattle.record.proofs.verify.dones_meet.Goals as goal

pub returns-then-get_u8-eq-FINISHING : goal.returns-then-get_u8-eq-FINISHING
unfolding dones_meet record_of
returns-then-get_u8-eq-FINISHING c = let l = c.args.bytes.now in
    simp (eq-eqb (get_or l 9 0) 3 (omega arith)) (cc)

pub returns-else-get_u8-eq-FINISHING : goal.returns-else-get_u8-eq-FINISHING
unfolding dones_meet record_of
returns-else-get_u8-eq-FINISHING c = let l = c.args.bytes.now in
    simp (ne_eqb (get_or l 9 0) 3 (λ e. omega arith)) (cc)
