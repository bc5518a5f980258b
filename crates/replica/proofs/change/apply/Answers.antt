-- `replica::change::apply`: the entries passed are applied, and the rest is to be.
use mathlib.Core.Path.{refl, sym, ap, ◌∙◌}
use native.Mathlib.Omega.{arith}
use Rattle.wire.specs.Decode.{decode, owner_of, serial_of}
use Rattle.wire.specs.Formed.{every}
use Rattle.replica.specs.Steps.{applied}
use Rattle.replica.specs.Given.{raisable}
use Rattle.judge.proofs.Passes.{rest_first}
use Rattle.replica.proofs.Passes.{applied_again, applied_end, every_next}
use Rattle.replica.proofs.change.apply.Goals as goal

pub loop-i-init : goal.loop-i-init
loop-i-init c = let b = c.args.message.now in (
  refl,
  ap (applied c.args.image.now (owner_of b) (serial_of b)) (rest_first b),
  ap (every raisable) (rest_first b) ∙ c.requires,
)

pub apply_one-requires : goal.apply_one-requires
apply_one-requires c = let l = c.loop-i in
    let x = c.args in
    rw c.nth_entry.ensures (every_next raisable x.message.now l.i (omega (arith, c.entries-i-end.ensures.0)) l.invariant.2).0

pub loop-i-preserved : goal.loop-i-preserved
loop-i-preserved c = let l = c.loop-i in
    let b = c.args.message.now in
    let k = c.apply_one in
    let h = sym (applied_again l.image b (owner_of b) (serial_of b) l.i (omega (arith, c.entries-i-end.ensures.0))) ∙ l.invariant.1 in (
      k.auto.image ∙ l.invariant.0,
      rw (
        k.ensures,
        c.nth_entry.ensures,
        c.serial-s.ensures,
        c.owner-o.ensures,
      ) h,
      (every_next raisable b l.i (omega (arith, c.entries-i-end.ensures.0)) l.invariant.2).1,
    )

pub returns : goal.returns
unfolding decode
returns c = let l = c.loop-i in
    let b = c.args.message.now in
    sym (applied_end l.image b (owner_of b) (serial_of b) l.i (omega (arith, c.entries-i-end.ensures.0))) ∙ l.invariant.1
