-- `image::verify::is_valid`: the passes together are the clauses.
use mathlib.Core.Path.{◌≡◌, ap₂, ◌∙◌}
use mathlib.Core.Bool.{◌&&◌}
use Rattle.image.specs.Layout.{shape}
use Rattle.image.specs.Valid.{formed, valid}
use Rattle.image.proofs.Sound.{passes}
use Rattle.image.proofs.verify.is_valid.Goals as goal

pub returns : goal.returns
unfolding valid
returns c = let l = c.args.image.now in
    let w = c.walk-w in
    let clauses : c.both-formed.result ≡ formed shape l =
    rw (c.both-formed.ensures, c.both-own.ensures, c.counts_ok.ensures, w.ensures.each_fits, c.copies_ok.ensures)
    (passes l w.result.listed w.result.held w.ensures.in_listed w.ensures.in_held) in
    c.both.ensures ∙ ap₂ ◌&&◌ clauses c.authors_ok.ensures
