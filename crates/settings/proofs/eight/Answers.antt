-- `settings::eight`: the bytes copied are the part.
use Rattle.std.proofs.Common.{ℕ, ◌≡◌, ◌+◌, ◌-◌, take, drop, ap, ◌∙◌, arith}
use Rattle.parts.specs.Parts.{part}
use Rattle.classes.specs.Classes.{most_classes}
use Rattle.settings.proofs.eight.Goals as goal

pub returns : goal.returns
unfolding part
returns c =
    let x = c.args in
    let n : x.at + most_classes - x.at ≡ most_classes = omega arith in
    c.copy_from_slice.ensures.after ∙ ap (λ (k : ℕ). take k (drop x.at x.bytes.now)) n
