-- `record::verify::numbers_meet`: each test in turn.
use native.Mathlib.Omega.{arith}
use borrow.Author.Tests.{eq-eqb, ne_eqb, lt-leb, le-leb}
use lib.ListN.{get_or}
use Rattle.octets.specs.Octets.{get}
use Rattle.clauses.specs.Clauses.{numbers_meet}
use Rattle.record.specs.Record.{record_of}
use Rattle.record.proofs.verify.numbers_meet.Goals as goal

pub returns-then-phase-gt-FINISHING : goal.returns-then-phase-gt-FINISHING
unfolding numbers_meet record_of
returns-then-phase-gt-FINISHING c = let l = c.args.bytes.now in
    simp (lt-leb (get_or l 9 0) 3 (omega arith))

pub returns-then-outcome-gt-ABORTED : goal.returns-then-outcome-gt-ABORTED
unfolding numbers_meet record_of
returns-then-outcome-gt-ABORTED c = let l = c.args.bytes.now in
    simp (le-leb (get_or l 9 0) 3 (omega arith), lt-leb (get_or l 8 0) 2 (omega arith))

pub returns-then-get_u32-eq0 : goal.returns-then-get_u32-eq0
unfolding numbers_meet record_of
returns-then-get_u32-eq0 c = let l = c.args.bytes.now in
    simp (le-leb (get_or l 9 0) 3 (omega arith), le-leb (get_or l 8 0) 2 (omega arith), eq-eqb (get 4 l 0) 0 (omega arith)) (cc)

pub returns-else-get_u32-eq0 : goal.returns-else-get_u32-eq0
unfolding numbers_meet record_of
returns-else-get_u32-eq0 c = let l = c.args.bytes.now in
    simp (le-leb (get_or l 9 0) 3 (omega arith), le-leb (get_or l 8 0) 2 (omega arith), ne_eqb (get 4 l 0) 0 (λ e. omega arith)) (cc)
