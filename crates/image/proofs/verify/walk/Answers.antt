-- `image::verify::walk`: what was tested so far is `each` of the owners passed, and the masks mark those of them in states 1 and 2.
use native.Mathlib.Omega.{arith}
use Prim.Native.Nat.{ℕ}
use mathlib.Core.Path.{refl, sym}
use lib.Dec.{eqb}
use Rattle.image.specs.Layout.{state, owner_of}
use Rattle.image.specs.Valid.{each}
use Rattle.image.specs.Pass.{owner_fits}
use Rattle.image.proofs.Each.{each_more}
use Rattle.image.proofs.Marks.{marks_none, marks_next}
use Rattle.image.proofs.verify.walk.Goals as goal

pub loop-o-init : goal.loop-o-init
unfolding each
loop-o-init c = let l = c.args.image.now in
    (refl, marks_none (λ (k : ℕ). eqb (state l k) 1), marks_none (λ (k : ℕ). eqb (state l k) 2))

pub loop-o-preserved : goal.loop-o-preserved
unfolding owner_of
loop-o-preserved c = let l = c.loop-o in
    let i = c.args.image.now in
    let w = c.owner_of-w.ensures in (
      rw (c.both-ok.ensures, c.owner_ok.ensures, w, l.invariant.0) (sym (each_more (owner_fits i) l.o)),
      rw (c.mark-listed.ensures, w) (marks_next (λ (k : ℕ). eqb (state i k) 1) l.listed l.o (omega arith) l.invariant.1),
      rw (c.mark-held.ensures, w) (marks_next (λ (k : ℕ). eqb (state i k) 2) l.held l.o (omega arith) l.invariant.2),
    )
