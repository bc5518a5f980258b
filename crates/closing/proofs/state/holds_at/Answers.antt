-- `closing::state::holds_at`: the test of the node's part.
use mathlib.Core.Path.{◌≡◌, ◌∙◌, ap₂}
use Prim.Native.Nat.{ℕ, ◌+◌, ◌-◌, ◌*◌}
use native.Mathlib.Omega.{arith}
use lib.ListN.{take, drop}
use Rattle.image.specs.Layout.{image_size, shape}
use Rattle.parts.specs.Parts.{part}
use Rattle.buffers.specs.Buffers.{image_at}
use Rattle.closing.specs.State.{holds, holds_at}
use Rattle.closing.proofs.state.holds_at.Goals as goal

pub returns : goal.returns
unfolding holds_at image_at part
returns c = let w = c.from-start in
    let x = c.args in
    let e : image_size shape * w.result + image_size shape - image_size shape * w.result ≡ image_size shape = omega arith in
    c.holds.ensures ∙ ap₂ (λ (m n : ℕ). holds (take m (drop (image_size shape * n) x.images.now)) x.owner x.serial) e w.ensures
