-- `image::verify::authors_ok`: the authors passed are in order.
use native.Mathlib.Omega.{arith}
use mathlib.Core.Path.{◌≡◌, refl, sym, ◌∙◌}
use mathlib.Core.Bool.{true}
use Rattle.image.specs.Layout.{shape}
use Rattle.image.specs.Valid.{each}
use Rattle.image.proofs.Each.{each_more, each_fails}
use Rattle.image.proofs.Authors.{author_by}
use Rattle.image.proofs.verify.authors_ok.Invariants.{fine}
use Rattle.image.proofs.verify.authors_ok.Goals as goal

pub loop-t-init : goal.loop-t-init
unfolding each
loop-t-init c = refl

pub returns-then-not-author_ok : goal.returns-then-not-author_ok
returns-then-not-author_ok c = let l = c.loop-t in
    let image = c.args.image.now in
    let said : c.author_ok.result ≡ fine image l.t = rw (
      c.author_ok.ensures,
      c.here_u8.ensures,
      c.both-none.ensures,
      c.here_u16-high.ensures,
      c.here_u16-low.ensures,
    ) (author_by image l.t (omega arith)) in
    sym (each_fails (fine image) shape.objects l.t (omega arith) (sym said ∙ c.if-not-author_ok.true))

pub loop-t-preserved : goal.loop-t-preserved
loop-t-preserved c = let l = c.loop-t in
    let image = c.args.image.now in
    let said : c.author_ok.result ≡ fine image l.t = rw (
      c.author_ok.ensures,
      c.here_u8.ensures,
      c.both-none.ensures,
      c.here_u16-high.ensures,
      c.here_u16-low.ensures,
    ) (author_by image l.t (omega arith)) in
    let e : fine image l.t ≡ true = sym said ∙ c.if-not-author_ok.false in
    each_more (fine image) l.t ∙ rw (l.invariant, e)
