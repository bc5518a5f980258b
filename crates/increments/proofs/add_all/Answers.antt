-- `increments::add_all`: after i turns the bytes are those of the record after the first i amounts.
use Rattle.std.proofs.Common.{◌≡◌, arith, rules}
use Rattle.octets.proofs.Laws.{Bytes}
use Rattle.record.specs.Record.{record_of}
use Rattle.deeds.proofs.Held.{checked_holds, holds_checked}
use Rattle.increments.specs.Deeds.{ran, amounts, adding}
use Rattle.increments.proofs.Turns.{add_opened, add_turn}
use Rattle.increments.proofs.add_all.Goals as goal

pub loop-i-init : goal.loop-i-init
unfolding ran adding amounts
loop-i-init c = let l = c.args.bytes.now in
    let small : Bytes l = λ j. omega (arith, c.type_inv.bytes j) in
    (checked_holds l small c.requires.bytes_value, search rules, λ j. search rules)

pub open-requires : goal.open-requires
open-requires c = holds_checked _ _ c.loop-i.invariant.0

pub set_value-requires : goal.set_value-requires
set_value-requires c = let x = c.args in
    let k = c.loop-i in
    holds_checked _ _ (add_opened x.me (record_of x.bytes.now) x.objects x.grams k.bytes k.i k.invariant.0 _ c.«open».ensures.bytes_after)

pub loop-i-preserved : goal.loop-i-preserved
loop-i-preserved c = let x = c.args in
    let k = c.loop-i in (
      add_turn x.me (record_of x.bytes.now) x.objects x.grams k.bytes k.i k.invariant.0 _ c.«open».ensures.bytes_after _
          c.set_value.ensures.bytes_after (omega (arith, c.requires.n_le_most_open, k.invariant.1)) (k.invariant.2 k.i).fits,
      k.invariant.1,
      k.invariant.2,
    )

pub returns-clause-bytes_after_2 : goal.returns-clause-bytes_after_2
returns-clause-bytes_after_2 c = let x = c.args in
    let k = c.loop-i in
    let e : k.i ≡ x.n = omega arith in
    holds_checked _ _ k.invariant.0
