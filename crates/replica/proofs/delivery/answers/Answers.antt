-- `replica::delivery::answers`: by the kind, or refused.
use mathlib.Core.Path.{sym, ap, ◌∙◌}
use mathlib.Core.Bool.{Bool, ◌&&◌}
use borrow.Author.Tests.{eq-eqb, ne_eqb}
use Rattle.numbers.specs.Sizes.{longest_message}
use Rattle.numbers.proofs.Outcome.{code_counts}
use Rattle.wire.specs.Decode.{decode}
use Rattle.replica.specs.Receive.{speaks}
use Rattle.replica.proofs.Delivered.{spoken_is}
use Rattle.replica.proofs.delivery.answers.Goals as goal

pub returns-in-Ok : goal.returns-in-Ok
returns-in-Ok c = let x = c.args in
    let l = x.image.now in
    let b = x.message.now in
    let taken = eq-eqb _ 0 (sym c.in-Ok.ensures) in
    c.speaks.ensures ∙ ap (λ (t : Bool). t && speaks l (decode b)) (sym taken) ∙ spoken_is longest_message l x.me b

pub returns-in-Err : goal.returns-in-Err
returns-in-Err c = let x = c.args in
    let l = x.image.now in
    let b = x.message.now in
    let refused = ne_eqb _ 0 (λ z. code_counts c.in-Err.field-0 (c.in-Err.ensures ∙ z)) in
    ap (λ (t : Bool). t && speaks l (decode b)) (sym refused) ∙ spoken_is longest_message l x.me b
