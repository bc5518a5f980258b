-- `record::verify::are_present`: by the phase.
use native.Mathlib.Omega.{arith}
use borrow.Author.Tests.{eq-eqb, ne_eqb}
use lib.ListN.{get_or}
use Rattle.record.specs.Record.{record_of}
use Rattle.record.proofs.verify.are_present.Goals as goal

pub returns-then-get_u8-eq-IDLE : goal.returns-then-get_u8-eq-IDLE
unfolding record_of
returns-then-get_u8-eq-IDLE c = let l = c.args.bytes.now in
    simp (eq-eqb (get_or l 9 0) 0 (omega arith)) c.no_nodes.ensures

pub returns-else-get_u8-eq-IDLE : goal.returns-else-get_u8-eq-IDLE
unfolding record_of
returns-else-get_u8-eq-IDLE c = let l = c.args.bytes.now in
    simp (ne_eqb (get_or l 9 0) 0 (λ e. omega arith)) (cc)
