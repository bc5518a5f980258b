-- A call's number is 0 only where no refusal of its list fits.
use mathlib.Core.Path.{◌≡◌, refl}
use mathlib.Core.Bool.{Bool, true, false, cond, ◌&&◌}
use mathlib.Core.List.{List, [], ◌∷◌}
use Prim.Native.Nat.{ℕ, zero, suc}
use native.Mathlib.Omega.{arith}
use lib.Dec.{T}
use Rattle.numbers.specs.Refusal.{Refusal, first_of}

-- no refusal of the list fits
abbrev pub Clear : List Refusal → Type 0
Clear [] = Unit {0}
Clear (r ∷ rs) = (r.fits ≡ false) × Clear rs

-- every refusal of the list has a number other than 0
abbrev positive : ℕ → Bool
positive zero = false
positive (suc n) = true

abbrev pub numbered : List Refusal → Bool
numbered [] = true
numbered (r ∷ rs) = positive r.number && numbered rs

clear_one : (n : ℕ) (b : Bool) (rest : ℕ) (ns : Bool) → T (positive n && ns) → cond b n rest ≡ 0 → (b ≡ false) × ((rest ≡ 0) × T ns)
clear_one zero b rest ns t e = absurd t
clear_one (suc n) true rest ns t e = absurd (let z : ⊥ = omega arith in z)
clear_one (suc n) false rest ns t e = (refl, (e, t))

pub clear : (rs : List Refusal) → T (numbered rs) → first_of rs ≡ 0 → Clear rs
clear [] t e = tt
clear (r ∷ rs) t e =
    let k = clear_one r.number r.fits (first_of rs) (numbered rs) t e in
    (k.0, clear rs k.1.1 k.1.0)
