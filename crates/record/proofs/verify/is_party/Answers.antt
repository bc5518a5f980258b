-- `record::verify::is_party`: by whether there are participants.
use native.Mathlib.Omega.{arith}
use mathlib.Core.Path.{◌∙◌}
use borrow.Author.Tests.{eq-eqb, ne_eqb}
use Rattle.numbers.specs.Sizes.{nodes}
use Rattle.octets.specs.Octets.{get}
use Rattle.record.specs.Record.{record_of, rivals_of}
use Rattle.record.specs.Valid.{party_is}
use Rattle.record.proofs.Zero.{zero_numbers}
use Rattle.record.proofs.verify.is_party.Goals as goal

pub returns-then-participants-eq0 : goal.returns-then-participants-eq0
unfolding party_is record_of rivals_of
returns-then-participants-eq0 c = let l = c.args.bytes.now in
    simp (eq-eqb (get 2 l 243) 0 (omega arith)) (c.are_zero.ensures ∙ zero_numbers 4 l nodes 249)

pub returns : goal.returns
unfolding party_is record_of
returns c = let l = c.args.bytes.now in
    simp (ne_eqb (get 2 l 243) 0 (λ e. omega arith)) (cc)
