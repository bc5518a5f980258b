-- `replica::steps::judge`: a no, or a yes.
use mathlib.Core.Path.{sym, ap, ◌∙◌}
use Rattle.wire.specs.Decode.{decode}
use Rattle.judge.specs.declared.Verdict.{Verdict}
use Rattle.replica.specs.Given.{written_as, filled_by}
use Rattle.replica.specs.Steps.{judged_image, judged_answer}
use Rattle.replica.proofs.steps.judge.Goals as goal

pub leave-requires : goal.leave-requires
unfolding decode
leave-requires c = λ n. rw c.owner-o.ensures (c.requires n)

pub returns-then-v-clause-number : goal.returns-then-v-clause-number
unfolding written_as filled_by judged_image judged_answer decode
returns-then-v-clause-number c = let t = sym (ap (λ (v : Verdict). v.no) c.judged-v.ensures) ∙ c.if-v.true in
    simp t c.say_vote.ensures.value

pub returns-then-v-clause-image : goal.returns-then-v-clause-image
unfolding written_as filled_by judged_image judged_answer decode
returns-then-v-clause-image c = let t = sym (ap (λ (v : Verdict). v.no) c.judged-v.ensures) ∙ c.if-v.true in simp t (rw (c.leave.ensures, c.owner-o.ensures))

pub returns-then-v-clause-buffer : goal.returns-then-v-clause-buffer
unfolding written_as filled_by judged_image judged_answer decode
returns-then-v-clause-buffer c = let t = sym (ap (λ (v : Verdict). v.no) c.judged-v.ensures) ∙ c.if-v.true in simp t c.say_vote.ensures.answer_after

pub leave-requires-2 : goal.leave-requires-2
unfolding decode
leave-requires-2 c = λ n. rw c.owner-o.ensures (c.requires n)

pub returns-clause-number : goal.returns-clause-number
unfolding written_as filled_by judged_image judged_answer decode
returns-clause-number c = let v = c.judged-v.ensures in
    let t = sym (ap (λ (v : Verdict). v.no) v) ∙ c.if-v.false in
    simp t (rw (c.say_vote-2.ensures.value, c.serials_of-serials.ensures, v))

pub returns-clause-image : goal.returns-clause-image
unfolding written_as filled_by judged_image judged_answer decode
returns-clause-image c = let v = c.judged-v.ensures in
    let t = sym (ap (λ (v : Verdict). v.no) v) ∙ c.if-v.false in
    simp t (rw (c.hold.ensures, c.leave-2.ensures, c.owner-o.ensures))

pub returns-clause-buffer : goal.returns-clause-buffer
unfolding written_as filled_by judged_image judged_answer decode
returns-clause-buffer c = let v = c.judged-v.ensures in
    let t = sym (ap (λ (v : Verdict). v.no) v) ∙ c.if-v.false in
    simp t (rw (c.say_vote-2.ensures.answer_after, c.serials_of-serials.ensures, v))
