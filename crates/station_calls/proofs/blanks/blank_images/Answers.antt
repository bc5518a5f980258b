-- `station_calls::blanks::blank_images`: the images passed are blank.
use mathlib.Core.Path.{◌≡◌, refl, sym, ap, ◌∙◌}
use mathlib.Core.List.{List}
use Prim.Native.Nat.{ℕ, ◌+◌, ◌-◌, ◌*◌}
use native.Mathlib.Omega.{arith}
use native.Mathlib.Numerals.{add-one}
use lib.ListN.{length}
use borrow.Author.Tests.{eq-eqb}
use Rattle.parts.specs.Parts.{part, splice}
use Rattle.parts.proofs.Laws.{lent, length_part}
use Rattle.image.specs.Layout.{shape, image_size}
use Rattle.image.specs.Blank.{blank_as, blank}
use Rattle.station_calls.specs.Calls.{each_part, images_blank}
use Rattle.station_calls.proofs.blanks.blank_images.Goals as goal

made : (l : List ℕ) → length l ≡ image_size shape → blank l ≡ blank_as shape
unfolding blank
made l e = simp (eq-eqb (length l) (image_size shape) e)

pub loop-n-init : goal.loop-n-init
unfolding each_part
loop-n-init c = refl

pub loop-n-preserved : goal.loop-n-preserved
unfolding each_part
loop-n-preserved c = let l = c.loop-n in
    let n = l.n in
    let t = c.loop-n-test.true in
    let k = l.auto.images ∙ c.requires in
    let e : image_size shape * n + image_size shape - image_size shape * n ≡ image_size shape = omega arith in
    let q : length (part (image_size shape) (image_size shape * n) l.images) ≡ image_size shape = length_part (image_size shape) (image_size shape * n)
    l.images (omega arith) in
    let b = lent blank (image_size shape) (image_size shape * n) (image_size shape * n + image_size shape - image_size shape * n) l.images _ e
    c.blank.ensures.image
    ∙ ap (λ (m : List ℕ). splice (image_size shape) (image_size shape * n) m l.images)
    (made (part (image_size shape) (image_size shape * n) l.images) q) in
    b ∙ ap (splice (image_size shape) (image_size shape * n) (blank_as shape)) l.invariant
    ∙ ap (λ (j : ℕ). images_blank j c.args.images.now) (sym (add-one n))
