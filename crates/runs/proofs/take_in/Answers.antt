-- `runs::take_in`: what is taken in whole, and that what was held goes on.
use mathlib.Core.Path.{◌∙◌}
use Rattle.runs.proofs.Taking.{goes_on}
use Rattle.runs.proofs.take_in.Goals as goal

pub returns-clause-value : goal.returns-clause-value
returns-clause-value c = let k = c.take_in_all in
    let x = c.args in
    let a = c.number.ensures ∙ k.ensures.number in
    let b = k.ensures.images in a

pub returns-clause-images_after : goal.returns-clause-images_after
returns-clause-images_after c = let k = c.take_in_all in
    let x = c.args in
    let a = c.number.ensures ∙ k.ensures.number in
    let b = k.ensures.images in b

pub returns-clause-goes_on : goal.returns-clause-goes_on
returns-clause-goes_on c = let k = c.take_in_all in
    let x = c.args in
    let a = c.number.ensures ∙ k.ensures.number in
    let b = k.ensures.images in rw (a, b) (goes_on x.old.now x.images.now)
