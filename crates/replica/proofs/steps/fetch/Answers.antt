-- `replica::steps::fetch`: the copy as it was found, then the lists.
use mathlib.Core.Path.{sym, ap, ◌∙◌}
use Rattle.replica.specs.Given.{written_as, filled_by}
use Rattle.replica.specs.Steps.{copy_here, fetch_image, fetch_answer}
use Rattle.wire.specs.Decode.{decode}
use Rattle.replica.proofs.Passes.{first_entry}
use Rattle.replica.proofs.steps.fetch.Goals as goal

pub returns-then-is_active-clause-number : goal.returns-then-is_active-clause-number
unfolding written_as filled_by fetch_image fetch_answer copy_here decode
returns-then-is_active-clause-number c = let x = c.args in
    let t = sym c.is_active.ensures ∙ c.if-is_active.true in
    let e = c.copy_here-e.ensures ∙ ap (copy_here x.image.now) (c.nth_entry.ensures ∙ first_entry x.message.now) in
    simp t (rw (c.say_copy.ensures.value, e))

pub returns-then-is_active-clause-image : goal.returns-then-is_active-clause-image
unfolding written_as filled_by fetch_image fetch_answer copy_here decode
returns-then-is_active-clause-image c = let x = c.args in
    let t = sym c.is_active.ensures ∙ c.if-is_active.true in
    let e = c.copy_here-e.ensures ∙ ap (copy_here x.image.now) (c.nth_entry.ensures ∙ first_entry x.message.now) in
    simp t (rw (
      c.join_list.ensures,
      c.enter.ensures,
      c.owner.ensures,
      e,
    ))

pub returns-then-is_active-clause-buffer : goal.returns-then-is_active-clause-buffer
unfolding written_as filled_by fetch_image fetch_answer copy_here decode
returns-then-is_active-clause-buffer c = let x = c.args in
    let t = sym c.is_active.ensures ∙ c.if-is_active.true in
    let e = c.copy_here-e.ensures ∙ ap (copy_here x.image.now) (c.nth_entry.ensures ∙ first_entry x.message.now) in
    simp t (rw (c.say_copy.ensures.answer_after, e))

pub returns-clause-number : goal.returns-clause-number
unfolding written_as filled_by fetch_image fetch_answer
returns-clause-number c = let t = sym c.is_active.ensures ∙ c.if-is_active.false in simp t c.silence.ensures

pub returns-clause-image : goal.returns-clause-image
unfolding written_as filled_by fetch_image fetch_answer
returns-clause-image c = let t = sym c.is_active.ensures ∙ c.if-is_active.false in simp t

pub returns-clause-buffer : goal.returns-clause-buffer
unfolding written_as filled_by fetch_image fetch_answer
returns-clause-buffer c = let t = sym c.is_active.ensures ∙ c.if-is_active.false in simp t
