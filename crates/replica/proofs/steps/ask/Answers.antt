-- `replica::steps::ask`: judged, or the vote again, or nothing.
use native.Mathlib.Omega.{arith}
use mathlib.Core.Path.{sym, ap, ◌∙◌}
use borrow.Author.Tests.{eq-eqb, ne_eqb}
use Prim.Native.Nat.{ℕ}
use lib.Dec.{eqb}
use Rattle.wire.specs.Decode.{decode}
use Rattle.image.proofs.Sound.{check_sound}
use Rattle.replica.specs.Given.{written_as, filled_by}
use Rattle.replica.specs.Steps.{ask_image, ask_answer}
use Rattle.replica.proofs.Kept.{unlist_entered}
use Rattle.replica.proofs.steps.ask.Goals as goal

pub judge-requires : goal.judge-requires
judge-requires c = let x = c.args in
    let p = c.requires in
    let l = x.image.now in
    λ n. rw c.enter.ensures
    (unlist_entered l (decode x.message.now) (check_sound l p.0) p.1 (λ j. omega (arith, c.slice_known-1.given j))
    (sym c.is_active.ensures ∙ c.if-is_active.true) (ap (λ (k : ℕ). eqb k 1) (sym c.standing-s.ensures) ∙ n))

pub returns-then-is_active-clause-number : goal.returns-then-is_active-clause-number
unfolding ask_image ask_answer
returns-then-is_active-clause-number c = let e = c.enter.ensures in
    let j = c.judge.ensures in
    let t = sym c.is_active.ensures ∙ c.if-is_active.true in simp t (rw (j.number, e))

pub returns-then-is_active-clause-image : goal.returns-then-is_active-clause-image
unfolding ask_image ask_answer
returns-then-is_active-clause-image c = let e = c.enter.ensures in
    let j = c.judge.ensures in
    let t = sym c.is_active.ensures ∙ c.if-is_active.true in simp t (rw (j.image, e))

pub returns-then-is_active-clause-buffer : goal.returns-then-is_active-clause-buffer
unfolding ask_image ask_answer
returns-then-is_active-clause-buffer c = let e = c.enter.ensures in
    let j = c.judge.ensures in
    let t = sym c.is_active.ensures ∙ c.if-is_active.true in simp t (rw (j.buffer, e))

pub returns-then-s-eq-HELD-clause-number : goal.returns-then-s-eq-HELD-clause-number
unfolding written_as filled_by ask_image ask_answer
returns-then-s-eq-HELD-clause-number c = let t = sym c.is_active.ensures ∙ c.if-is_active.false in
    let s = c.standing-s.ensures in
    let u = eq-eqb _ 2 c.if-s-eq-HELD.true in
    let v = c.say_vote.ensures in simp t (rw (← s) (simp u v.value))

pub returns-then-s-eq-HELD-clause-image : goal.returns-then-s-eq-HELD-clause-image
unfolding written_as filled_by ask_image ask_answer
returns-then-s-eq-HELD-clause-image c = let t = sym c.is_active.ensures ∙ c.if-is_active.false in
    let s = c.standing-s.ensures in
    let u = eq-eqb _ 2 c.if-s-eq-HELD.true in
    let v = c.say_vote.ensures in simp t

pub returns-then-s-eq-HELD-clause-buffer : goal.returns-then-s-eq-HELD-clause-buffer
unfolding written_as filled_by ask_image ask_answer
returns-then-s-eq-HELD-clause-buffer c = let t = sym c.is_active.ensures ∙ c.if-is_active.false in
    let s = c.standing-s.ensures in
    let u = eq-eqb _ 2 c.if-s-eq-HELD.true in
    let v = c.say_vote.ensures in simp t (rw (← s) (simp u v.answer_after))

pub returns-then-s-eq-REFUSED-clause-number : goal.returns-then-s-eq-REFUSED-clause-number
unfolding written_as filled_by ask_image ask_answer
returns-then-s-eq-REFUSED-clause-number c = let t = sym c.is_active.ensures ∙ c.if-is_active.false in
    let s = c.standing-s.ensures in
    let n = ne_eqb _ 2 c.if-s-eq-HELD.false in
    let u = eq-eqb _ 3 c.if-s-eq-REFUSED.true in
    let v = c.say_vote-then-s-eq-REFUSED.ensures in simp t (rw (← s) (simp (n, u) v.value))

pub returns-then-s-eq-REFUSED-clause-image : goal.returns-then-s-eq-REFUSED-clause-image
unfolding written_as filled_by ask_image ask_answer
returns-then-s-eq-REFUSED-clause-image c = let t = sym c.is_active.ensures ∙ c.if-is_active.false in
    let s = c.standing-s.ensures in
    let n = ne_eqb _ 2 c.if-s-eq-HELD.false in
    let u = eq-eqb _ 3 c.if-s-eq-REFUSED.true in
    let v = c.say_vote-then-s-eq-REFUSED.ensures in simp t

pub returns-then-s-eq-REFUSED-clause-buffer : goal.returns-then-s-eq-REFUSED-clause-buffer
unfolding written_as filled_by ask_image ask_answer
returns-then-s-eq-REFUSED-clause-buffer c = let t = sym c.is_active.ensures ∙ c.if-is_active.false in
    let s = c.standing-s.ensures in
    let n = ne_eqb _ 2 c.if-s-eq-HELD.false in
    let u = eq-eqb _ 3 c.if-s-eq-REFUSED.true in
    let v = c.say_vote-then-s-eq-REFUSED.ensures in simp t (rw (← s) (simp (n, u) v.answer_after))

pub returns-clause-number : goal.returns-clause-number
unfolding written_as filled_by ask_image ask_answer
returns-clause-number c = let t = sym c.is_active.ensures ∙ c.if-is_active.false in
    let s = c.standing-s.ensures in
    let n = ne_eqb _ 2 c.if-s-eq-HELD.false in
    let u = ne_eqb _ 3 c.if-s-eq-REFUSED.false in simp t (rw (← s) (simp (n, u) c.silence.ensures))

pub returns-clause-image : goal.returns-clause-image
unfolding written_as filled_by ask_image ask_answer
returns-clause-image c = let t = sym c.is_active.ensures ∙ c.if-is_active.false in
    let s = c.standing-s.ensures in
    let n = ne_eqb _ 2 c.if-s-eq-HELD.false in
    let u = ne_eqb _ 3 c.if-s-eq-REFUSED.false in simp t

pub returns-clause-buffer : goal.returns-clause-buffer
unfolding written_as filled_by ask_image ask_answer
returns-clause-buffer c = let t = sym c.is_active.ensures ∙ c.if-is_active.false in
    let s = c.standing-s.ensures in
    let n = ne_eqb _ 2 c.if-s-eq-HELD.false in
    let u = ne_eqb _ 3 c.if-s-eq-REFUSED.false in simp t (rw (← s) (simp (n, u)))
