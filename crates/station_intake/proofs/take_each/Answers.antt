-- `station_intake::take_each`: the parts passed are taken in.
use mathlib.Core.Path.{◌≡◌, refl, sym, ap, ◌∙◌}
use mathlib.Core.List.{List}
use Prim.Native.Nat.{ℕ, ◌+◌, ◌-◌, ◌*◌}
use native.Mathlib.Omega.{arith}
use native.Mathlib.Numerals.{add-one}
use lib.ListN.{length, take, drop}
use Rattle.parts.proofs.Laws.{lent, length_part}
use Rattle.image.specs.Layout.{shape, image_size}
use Rattle.intake.specs.Take.{take_after}
use Rattle.buffers.specs.Buffers.{image_at, with_image_at}
use Rattle.station_intake.specs.Convert.{part_at}
use Rattle.station_intake.specs.Pass.{after_parts}
use Rattle.station_intake.proofs.Taken.{lent_part}
use Rattle.station_intake.proofs.take_each.Goals as goal

pub loop-n-init : goal.loop-n-init
unfolding after_parts
loop-n-init c = refl

pub loop-n-preserved : goal.loop-n-preserved
unfolding after_parts image_at with_image_at
loop-n-preserved c = let l = c.loop-n in
    let x = c.args in
    let n = l.n in
    let t = c.loop-n-test.true in
    let k = c.take_in in
    let w = image_size shape in
    let f = take_after (part_at x.size x.old.now n) in
    let e : w * n + w - w * n ≡ w = omega arith in
    let p = k.ensures.image ∙ ap (λ (m : List ℕ). take_after m (take (w * n + w - w * n) (drop (w * n) l.images))) (lent_part x.size n x.old.now) in
    let q : length k.new.image ≡ w =
    k.auto.image ∙ ap length (lent_part w n l.images) ∙ length_part w (w * n) l.images (omega (arith, l.auto.images, c.requires.1)) in
    lent f w (w * n) (w * n + w - w * n) l.images _ e p
    ∙ ap (λ (m : List ℕ). with_image_at m n (f (image_at m n))) l.invariant
    ∙ ap (λ (j : ℕ). after_parts x.size x.old.now j x.images.now) (sym (add-one n))
