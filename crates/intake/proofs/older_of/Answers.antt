-- `intake::older_of`: by its length.
use mathlib.Core.Path.{◌≡◌, refl}
use native.Mathlib.Omega.{arith}
use borrow.Author.Tests.{ne_eqb}
use Rattle.intake.specs.Take.{older_of}
use Rattle.intake.proofs.older_of.Goals as goal

pub returns-in-1527 : goal.returns-in-1527
unfolding older_of
returns-in-1527 c = (rw c.in-1527.is refl, (omega arith, omega arith))

pub returns-in-1207 : goal.returns-in-1207
unfolding older_of
returns-in-1207 c = (rw c.in-1207.is refl, (omega arith, omega arith))

pub returns-in_default : goal.returns-in_default
unfolding older_of
returns-in_default c =
    let with_authors : c.args.len ≡ 1527 → ⊥ = λ e. omega arith in
    let before_authors : c.args.len ≡ 1207 → ⊥ = λ e. omega arith in
    simp (ne_eqb _ _ with_authors, ne_eqb _ _ before_authors)
