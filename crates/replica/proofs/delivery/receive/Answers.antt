-- `replica::delivery::receive`: refused, or the step written whole.
use mathlib.Core.Path.{sym, ◌∙◌}
use Rattle.numbers.proofs.Outcome.{code_counts}
use Rattle.replica.specs.Receive.{length_of, filled}
use Rattle.replica.proofs.Delivered.{refused_is, received_is, image_is, buffer_is, raises_is}
use Rattle.replica.proofs.Taken.{clear_is}
use Rattle.replica.proofs.delivery.receive.Goals as goal

pub perform-w-requires : goal.perform-w-requires
perform-w-requires c = let x = c.args in
    let e = sym c.in-Ok.ensures in
    (raises_is x.image.now x.me x.message.now x.answer.now e, clear_is _ x.image.now x.me x.message.now e)

pub returns-in-Ok-clause-number : goal.returns-in-Ok-clause-number
returns-in-Ok-clause-number c = let x = c.args in
    let w = c.perform-w in
    received_is x.image.now x.me x.message.now x.answer.now (sym c.in-Ok.ensures) w.result w.ensures.number

pub returns-in-Ok-clause-image : goal.returns-in-Ok-clause-image
returns-in-Ok-clause-image c = let x = c.args in
    c.perform-w.ensures.image ∙ image_is x.image.now x.me x.message.now x.answer.now (sym c.in-Ok.ensures)

pub returns-in-Ok-clause-buffer : goal.returns-in-Ok-clause-buffer
returns-in-Ok-clause-buffer c = let x = c.args in
    c.perform-w.ensures.buffer ∙ buffer_is x.image.now x.me x.message.now x.answer.now (sym c.in-Ok.ensures)

pub returns-in-Err-clause-number : goal.returns-in-Err-clause-number
unfolding length_of filled
returns-in-Err-clause-number c = let r = c.in-Err.ensures in
    let d = refused_is _ _ _ _ (λ e. code_counts c.in-Err.refusal (r ∙ e)) in rw d (rw (c.from.ensures, r))

pub returns-in-Err-clause-image : goal.returns-in-Err-clause-image
unfolding length_of filled
returns-in-Err-clause-image c = let r = c.in-Err.ensures in
    let d = refused_is _ _ _ _ (λ e. code_counts c.in-Err.refusal (r ∙ e)) in rw d

pub returns-in-Err-clause-buffer : goal.returns-in-Err-clause-buffer
unfolding length_of filled
returns-in-Err-clause-buffer c = let r = c.in-Err.ensures in
    let d = refused_is _ _ _ _ (λ e. code_counts c.in-Err.refusal (r ∙ e)) in rw d
