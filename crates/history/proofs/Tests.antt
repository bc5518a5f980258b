-- Tests joined: what each side says.
use mathlib.Core.Path.{◌≡◌, refl, sym, ◌∙◌}
use mathlib.Core.Logic.{◌⊎◌, inl, inr}
use mathlib.Core.Bool.{Bool, true, false, not, ◌&&◌, ◌||◌}
use Rattle.protocol.specs.Proof.Tables.{clash}

pub no_both : {b : Bool} → b ≡ true → b ≡ false → ⊥
no_both {b} h k = let z : true ≡ false = sym h ∙ k in clash (cc)

pub and-true : (a b : Bool) → (a && b) ≡ true → (a ≡ true) × (b ≡ true)
and-true true b e = (refl, e)
and-true false b e = absurd (no_both e refl)

pub or-true : (a b : Bool) → (a || b) ≡ true → (a ≡ true) ⊎ (b ≡ true)
or-true true b e = inl refl
or-true false b e = inr e

pub not-false : (b : Bool) → not b ≡ false → b ≡ true
not-false true e = refl
not-false false e = absurd (no_both refl e)

pub not-true : (b : Bool) → not b ≡ true → b ≡ false
not-true true e = absurd (no_both e refl)
not-true false e = refl
