-- `image::verify::authors_ok`: the authors passed are in order.
use Prim.Native.Nat.{ℕ}
use mathlib.Core.Path.{◌≡◌}
use mathlib.Core.Bool.{Bool, true}
use mathlib.Core.List.{List}
use Rattle.image.specs.Layout.{author, author_serial}
use Rattle.image.specs.Valid.{each, author_ok}
use Rattle.image.proofs.verify.authors_ok.Given as goal

abbrev pub fine : List ℕ → ℕ → Bool
fine l t = author_ok (author l t) (author_serial l t)

abbrev pub invariant-loop-t : goal.invariant-loop-t
invariant-loop-t l = each l.t (fine l.image) ≡ true
