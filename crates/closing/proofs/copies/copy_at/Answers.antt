-- `closing::copies::copy_at`: the fields of the node's part.
use mathlib.Core.Path.{◌≡◌, ◌∙◌, ap, ap₂}
use mathlib.Core.List.{List}
use Prim.Native.Nat.{ℕ, ◌+◌, ◌-◌, ◌*◌}
use native.Mathlib.Omega.{arith}
use lib.ListN.{take, drop}
use Rattle.parts.specs.Parts.{part}
use Rattle.image.specs.Layout.{version, value, author, author_serial, image_size, shape}
use Rattle.buffers.specs.Buffers.{image_at}
use Rattle.closing.specs.Copies.{copy_at}
use Rattle.closing.proofs.copies.copy_at.Goals as goal

pub returns : goal.returns
unfolding copy_at image_at part
returns c = let w = c.from-start in
    let x = c.args in
    let l = x.images.now in
    let e : image_size shape * w.result + image_size shape - image_size shape * w.result ≡ image_size shape = omega arith in
    let k : take (image_size shape * w.result + image_size shape - image_size shape * w.result) (drop (image_size shape * w.result) l) ≡
    take (image_size shape) (drop (image_size shape * x.node) l) =
    ap₂ (λ (m n : ℕ). take m (drop (image_size shape * n) l)) e w.ensures in
    let f = c.version.ensures ∙ ap (λ (m : List ℕ). version m x.object) k in
    let g = c.value.ensures ∙ ap (λ (m : List ℕ). value m x.object) k in
    let a = c.author.ensures ∙ ap (λ (m : List ℕ). author m x.object) k in
    let n = c.author_serial.ensures ∙ ap (λ (m : List ℕ). author_serial m x.object) k in
    λ i. record { version = f i; value = g i; nodes = c.single.ensures i; author = a i; serial = n i }
