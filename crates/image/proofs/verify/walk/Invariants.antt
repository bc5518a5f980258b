-- `image::verify::walk`: what was tested so far is `each` of the owners passed, and the masks mark those of them in states 1 and 2.
use Prim.Native.Nat.{ℕ}
use mathlib.Core.Path.{◌≡◌}
use lib.Dec.{eqb}
use Rattle.image.specs.Layout.{state}
use Rattle.image.specs.Valid.{each}
use Rattle.image.specs.Pass.{owner_fits}
use Rattle.image.proofs.Marks.{Marks}
use Rattle.image.proofs.verify.walk.Given as goal

abbrev pub invariant-loop-o : goal.invariant-loop-o
invariant-loop-o l = (l.ok ≡ each l.o (owner_fits l.image)) × Marks l.listed l.o (λ (k : ℕ). eqb (state l.image k) 1)
    × Marks l.held l.o (λ (k : ℕ). eqb (state l.image k) 2)
