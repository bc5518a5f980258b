-- `image::verify::copies_ok`: the holders passed fit, and the lists joined are within the mask exactly when each is.
use native.Mathlib.Omega.{arith}
use mathlib.Core.Path.{◌≡◌, refl, sym, ap, ◌∙◌}
use mathlib.Core.Bool.{Bool, true, false, ◌&&◌}
use Rattle.mask.specs.Mask.{joined, within}
use Rattle.mask.proofs.Laws.{within_joined}
use Rattle.image.specs.Layout.{shape, readers, writers}
use Rattle.image.specs.Valid.{each}
use Rattle.image.specs.Pass.{holder_fits, copy_fits}
use Rattle.image.proofs.Each.{each_more, each_fails, each_both}
use Rattle.image.proofs.verify.copies_ok.Invariants.{fit, inside}
use Rattle.image.proofs.verify.copies_ok.Goals as goal

pub loop-t-init : goal.loop-t-init
unfolding each
loop-t-init c = (refl, refl)

pub returns-then-not-holder_ok : goal.returns-then-not-holder_ok
returns-then-not-holder_ok c = let l = c.loop-t in
    let x = c.args in
    let e : fit x.held x.image.now l.t ≡ false =
    ap (holder_fits x.held) (sym c.here_u8.ensures) ∙ sym c.holder_ok.ensures ∙ c.if-not-holder_ok.true in
    let q = inside x.listed x.image.now l.t in
    sym (each_fails (copy_fits x.listed x.held x.image.now) shape.objects l.t (omega arith) (ap (λ (b : Bool). b && q) e))

pub loop-t-preserved : goal.loop-t-preserved
loop-t-preserved c = let l = c.loop-t in
    let x = c.args in
    let p = fit x.held x.image.now in
    let q = inside x.listed x.image.now in
    let e : p l.t ≡ true =
    ap (holder_fits x.held) (sym c.here_u8.ensures) ∙ sym c.holder_ok.ensures ∙ c.if-not-holder_ok.false in (
      each_more p l.t ∙ rw (l.invariant.0, e),
      rw (c.join-lists.ensures, c.join.ensures, c.here_u16-w.ensures, c.here_u16-r.ensures)
          (within_joined l.lists (joined (readers x.image.now l.t) (writers x.image.now l.t)) x.listed
          ∙ ap (λ (b : Bool). b && q l.t) l.invariant.1 ∙ sym (each_more q l.t)),
    )

pub returns : goal.returns
returns c = let l = c.loop-t in
    let x = c.args in
    let p = fit x.held x.image.now in
    let q = inside x.listed x.image.now in
    let e : l.t ≡ shape.objects = omega arith in
    let a : each shape.objects p ≡ true = rw e at l.invariant.0 in
    let b : within l.lists x.listed ≡ each shape.objects q = rw e at l.invariant.1 in
    c.subset.ensures ∙ b ∙ sym (each_both p q shape.objects ∙ ap (λ (t : Bool). t && each shape.objects q) a)
