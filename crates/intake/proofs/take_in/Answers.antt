-- `intake::take_in`: the lengths, then what the older bytes become, judged and laid into the image.
use mathlib.Core.Path.{refl, sym, ◌∙◌}
use mathlib.Core.Bool.{true, false}
use borrow.Author.Tests.{eq-eqb, ne_eqb}
use Rattle.intake.specs.Pass.{shape_of}
use Rattle.intake.proofs.Called.{unknown_length, called, laid}
use Rattle.intake.proofs.take_in.Goals as goal

pub returns-in_default-clause-number : goal.returns-in_default-clause-number
returns-in_default-clause-number c = (unknown_length c.args.old.now c.args.image.now c.in_default.ensures).0

pub returns-in_default-clause-image : goal.returns-in_default-clause-image
returns-in_default-clause-image c = (unknown_length c.args.old.now c.args.image.now c.in_default.ensures).1

pub returns-then-image-ne-SIZE-clause-number : goal.returns-then-image-ne-SIZE-clause-number
returns-then-image-ne-SIZE-clause-number c =
    let x = c.args in
    (called x.old.now x.image.now (shape_of c.in-Some.s) c.in-Some.ensures.0 false _ (ne_eqb _ _ c.if-image-ne-SIZE.true) refl).0

pub returns-then-image-ne-SIZE-clause-image : goal.returns-then-image-ne-SIZE-clause-image
returns-then-image-ne-SIZE-clause-image c =
    let x = c.args in
    (called x.old.now x.image.now (shape_of c.in-Some.s) c.in-Some.ensures.0 false _ (ne_eqb _ _ c.if-image-ne-SIZE.true) refl).1

pub returns-then-not-is_valid-clause-number : goal.returns-then-not-is_valid-clause-number
returns-then-not-is_valid-clause-number c =
    let x = c.args in
    let size = eq-eqb _ _ c.if-image-ne-SIZE.false in
    (called x.old.now x.image.now (shape_of c.in-Some.s) c.in-Some.ensures.0 true false size (sym c.is_valid.ensures ∙ c.if-not-is_valid.true)).0

pub returns-then-not-is_valid-clause-image : goal.returns-then-not-is_valid-clause-image
returns-then-not-is_valid-clause-image c =
    let x = c.args in
    let size = eq-eqb _ _ c.if-image-ne-SIZE.false in
    (called x.old.now x.image.now (shape_of c.in-Some.s) c.in-Some.ensures.0 true false size (sym c.is_valid.ensures ∙ c.if-not-is_valid.true)).1

pub returns-clause-number : goal.returns-clause-number
returns-clause-number c =
    let x = c.args in
    let size = eq-eqb _ _ c.if-image-ne-SIZE.false in
    (called x.old.now x.image.now (shape_of c.in-Some.s) c.in-Some.ensures.0 true true size (sym c.is_valid.ensures ∙ c.if-not-is_valid.false)).0

pub returns-clause-image : goal.returns-clause-image
returns-clause-image c =
    let old = c.args.old.now in
    let image = c.args.image.now in
    let s = shape_of c.in-Some.s in
    let e = c.in-Some.ensures.0 in
    let size = eq-eqb _ _ c.if-image-ne-SIZE.false in
    laid old image s e _ _ c.if-image-ne-SIZE.false c.fill.ensures c.lay.ensures
    ∙ (called old image s e true true size (sym c.is_valid.ensures ∙ c.if-not-is_valid.false)).1
