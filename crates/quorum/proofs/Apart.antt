-- Lists of sets of which none contains another: an executable test over every two of them, and what it means.
use mathlib.Core.Path.{◌≡◌, refl, ap}
use mathlib.Core.Bool.{Bool, true, not, ◌&&◌, ◌||◌}
use mathlib.Core.List.{List, [], ◌∷◌}
use Prim.Native.Nat.{ℕ, zero, suc, ◌<◌}
use native.Mathlib.Omega.{arith}
use lib.Dec.{T, T_not}
use lib.ListN.{length, get_or}
use Rattle.mask.specs.Mask.{within}
use Rattle.mask.proofs.Tests.{and_left, and_right, or_left, or_right}

-- neither of two sets contains the other
abbrev apart : ℕ → ℕ → Bool
apart p q = not (within p q || within q p)

unfoldable pub apart_from : ℕ → List ℕ → Bool
apart_from p [] = true
apart_from p (q ∷ qs) = apart p q && apart_from p qs

-- every two sets of a list are apart
unfoldable pub all_apart : List ℕ → Bool
all_apart [] = true
all_apart (q ∷ qs) = apart_from q qs && all_apart qs

from_at : (p : ℕ) (l : List ℕ) → T (apart_from p l) → (j : ℕ) → j < length l → T (apart p (get_or l j 0))
unfolding apart_from
from_at p [] t j h = absurd (let z : ⊥ = omega arith in z)
from_at p (q ∷ qs) t zero h = and_left (apart p q) (apart_from p qs) t
from_at p (q ∷ qs) t (suc j) h = from_at p qs (and_right (apart p q) (apart_from p qs) t) j (omega arith)

-- so a set inside another of the list is that one, in the same place
pub same_place : (l : List ℕ) → T (all_apart l) → (i j : ℕ) → i < length l → j < length l → T (within (get_or l i 0) (get_or l j 0)) → i ≡ j
unfolding all_apart
same_place [] t i j h k w = absurd (let z : ⊥ = omega arith in z)
same_place (q ∷ qs) t zero zero h k w = refl
same_place (q ∷ qs) t zero (suc j) h k w =
    let p = get_or qs j 0 in
    absurd (T_not (within q p || within p q) (from_at q qs (and_left (apart_from q qs) (all_apart qs) t) j (omega arith))
    (or_left (within q p) (within p q) w))
same_place (q ∷ qs) t (suc i) zero h k w =
    let p = get_or qs i 0 in
    absurd (T_not (within q p || within p q) (from_at q qs (and_left (apart_from q qs) (all_apart qs) t) i (omega arith))
    (or_right (within q p) (within p q) w))
same_place (q ∷ qs) t (suc i) (suc j) h k w =
    ap suc (same_place qs (and_right (apart_from q qs) (all_apart qs) t) i j (omega arith) (omega arith) w)
