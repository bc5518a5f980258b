-- `replica::change::settle`: late, early, or of the transaction here.
use borrow.Author.Tests.{eq-eqb, ne_eqb}
use Rattle.wire.specs.Decode.{decode}
use Rattle.replica.specs.Steps.{decided, outcome_image}
use native.Mathlib.Omega.{arith}
use Rattle.wire.proofs.Theorems.{decoded_fits}
use Rattle.image.proofs.Sound.{check_sound, sound_check}
use Rattle.replica.proofs.Kept.{keeps_decided}
use Rattle.replica.proofs.change.settle.Goals as goal

pub returns-then-s-eq-OVER : goal.returns-then-s-eq-OVER
unfolding outcome_image
returns-then-s-eq-OVER c = rw (← c.standing-s.ensures) (simp (eq-eqb _ 0 c.if-s-eq-OVER.true))

pub returns-then-s-eq-FRESH : goal.returns-then-s-eq-FRESH
unfolding outcome_image decode
returns-then-s-eq-FRESH c = rw (← c.standing-s.ensures)
    (simp (ne_eqb _ 0 c.if-s-eq-OVER.false, eq-eqb _ 4 c.if-s-eq-FRESH.true)
    (rw (
      c.set_stamp.ensures,
      c.set_state.ensures,
      c.set_serial.ensures,
      c.stamp.ensures,
      c.serial.ensures,
      c.owner-o.ensures,
    )))

pub release-requires : goal.release-requires
unfolding decode
release-requires c = let p = c.requires.1 in
    let l = c.args.image.now in
    let m = decode c.args.message.now in
    let f = decoded_fits c.args.message.now (λ j. omega (arith, c.type_inv.message j)) in
    (rw c.decide.ensures (sound_check (decided l m) (keeps_decided l m p.1 p.2 f (check_sound l p.0))), rw c.owner-o.ensures p.1)

pub returns : goal.returns
unfolding outcome_image decode
returns c = rw (← c.standing-s.ensures)
    (simp (ne_eqb _ 0 c.if-s-eq-OVER.false, ne_eqb _ 4 c.if-s-eq-FRESH.false)
    (rw (c.release.ensures, c.decide.ensures, c.owner-o.ensures)))
