-- `image::verify::copies_ok`: the holders passed fit, and the lists joined are within the mask exactly when each is.
use Prim.Native.Nat.{ℕ}
use mathlib.Core.Path.{◌≡◌}
use mathlib.Core.Bool.{Bool, true}
use mathlib.Core.List.{List}
use Rattle.mask.specs.Mask.{joined, within}
use Rattle.image.specs.Layout.{holder, readers, writers}
use Rattle.image.specs.Valid.{each}
use Rattle.image.specs.Pass.{holder_fits}
use Rattle.image.proofs.verify.copies_ok.Given as goal

-- the two halves of `copy_fits`
abbrev pub fit : ℕ → List ℕ → ℕ → Bool
fit held l t = holder_fits held (holder l t)

abbrev pub inside : ℕ → List ℕ → ℕ → Bool
inside listed l t = within (joined (readers l t) (writers l t)) listed

abbrev pub invariant-loop-t : goal.invariant-loop-t
invariant-loop-t l = (each l.t (fit l.held l.image) ≡ true) × (within l.lists l.listed ≡ each l.t (inside l.listed l.image))
